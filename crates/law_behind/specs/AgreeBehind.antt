-- When transcripts, a journal and digests agree behind a past.
use Rattle.std.specs.Prelude.{ℕ, ◌≡◌, ◌≤◌, List, ◌++◌, length, Option, None}
use Rattle.std.specs.Str.{bytes_eq}
use Rattle.sql_types.specs.declared.journal.JournalItem.{JournalItem}
use Rattle.spec_model.specs.Journals.{tx_count}
use Rattle.spec_history.specs.Agree.{AreStatements, DigestsAreOf, EndedHaveTheirReplies, IsOneOfTheirs, LockRefusals, MarksNeverFall, Placed, committed_ones, picked}
use Rattle.spec_history.specs.Digests.{Digest}
use Rattle.spec_history.specs.Facts.{Fact, image, no_digest, Shows, facts_of, id_of, mark_of}
use Rattle.spec_history.specs.InPlace.{EndsWhereItMay, IsControlled, IsElseNoMemory, Throughout}
use Rattle.spec_history.specs.Inputs.{InputSession}
use Rattle.spec_history.specs.Lists.{Text, Each, Some_of, In, At}
use Rattle.spec_history.specs.Marks.{IdsRise}
use Rattle.spec_history.specs.Meaning.{Meaning}
use Rattle.spec_history.specs.Serial.{IsLegal}
use Rattle.spec_history.specs.Transactions.{transactions}
use Rattle.spec_history.specs.Transcripts.{Transcript}
use Rattle.law_behind.specs.Past.{Past, since}

-- ---- ids

-- the ids of all transactions are `next` to some k, each once, and they rise in each transcript
pub record IdsAssignedFrom (q : Meaning) (next : ℕ) (X : List Transcript) : Type 0 where
  pub k : ℕ
  -- the session of each id
  pub session : ℕ → ℕ
  pub one : (i : ℕ) (x : Transcript) → At X i x
      → Shows id_of (λ id. (next ≤ id) × (id ≤ k) × (session id ≡ i)) (facts_of q x)
  pub all : (id : ℕ) → next ≤ id → id ≤ k
      → (x : Transcript) × At X (session id) x × Some_of (λ g. In id (id_of g)) (facts_of q x)
  pub rise : (i : ℕ) (x : Transcript) → At X i x → IdsRise (facts_of q x)

-- ---- committed transactions

-- those with this session's name; n come before
abbrev pub of_session_behind : ℕ → Text → List JournalItem → List Placed
of_session_behind n name J = picked (λ id session. bytes_eq session name) n J

-- J is legal and begins with the past; for each session of the input, the new transactions with its name are the
-- committed ones of its transcript in order, with id, `explicit` and script, each at the place that it printed, and
-- no others are new; end lines stand where they may
pub record JournalGoesOn (q : Meaning) (past : Past) (input : List InputSession) (X : List Transcript)
    (J : List JournalItem) : Type 0 where
  pub legal : IsLegal q J
  pub begins : J ≡ past.items ++ since past J
  pub no_others : Each (IsOneOfTheirs input) (since past J)
  pub items : (i : ℕ) (s : InputSession) (x : Transcript) → At input i s → At X i x
      → of_session_behind (tx_count past.items) s.name (since past J)
      ≡ committed_ones (transactions (facts_of q x))
  pub ends : (i : ℕ) (x : Transcript) → At X i x → Throughout (EndsWhereItMay q) None 0 x.entries

-- ---- marks

-- an image has so many items at least
abbrev pub HasItems : ℕ → Fact → Type 0
HasItems n (image items) = n ≤ items
HasItems n _ = Unit {0}

-- no mark is below the number of the past's transactions, each image has all items of the past, and NothingCommitted
-- comes only where the past has no transaction
pub record CountsThePast (q : Meaning) (past : Past) (X : List Transcript) (J : List JournalItem) : Type 0 where
  pub marks : (i : ℕ) (x : Transcript) → At X i x
      → Shows (mark_of J) (λ m. tx_count past.items ≤ m) (facts_of q x)
  pub images : (i : ℕ) (x : Transcript) → At X i x → Each (HasItems (length past.items)) (facts_of q x)
  pub none : (i : ℕ) (x : Transcript) → At X i x → In no_digest (facts_of q x) → tx_count past.items ≡ 0

-- ---- agreement

-- transcripts, a journal and digests of a database, of the sessions and statements of one input, behind a past:
-- the rules are those without one, but ids are assigned from the past's next one on, the journal begins with the
-- past, the items behind it are those of the sessions, and what counts in the journal counts the past too
pub record AgreeBehind (q : Meaning) (database : Text) (past : Past) (input : List InputSession) (setup : Option ℕ)
    (X : List Transcript) (J : List JournalItem) (G : List Digest) : Type 0 where
  pub statements_are_answered : AreStatements input X
  pub ids_are_assigned_once : IdsAssignedFrom q past.next X
  pub journal_goes_on : JournalGoesOn q past input X J
  pub ended_have_their_replies : EndedHaveTheirReplies q X J
  pub marks_never_fall : MarksNeverFall q setup X J
  pub past_counts : CountsThePast q past X J
  pub digests_are_the_journals : DigestsAreOf q database setup X J G
  pub lock_refusals_name_holders : LockRefusals q setup X J
  pub control_is_refused_in_place : (i : ℕ) (x : Transcript) → At X i x
      → Throughout (IsControlled q) None 0 x.entries
  pub else_no_memory : (i : ℕ) (x : Transcript) → At X i x → Throughout (IsElseNoMemory q) None 0 x.entries
