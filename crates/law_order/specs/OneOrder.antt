-- One order of all that the transcripts of a run show.
use Rattle.std.specs.Prelude.{ℕ, ◌≡◌, ◌≢◌, if◌then◌else◌, List, [], ◌∷◌, ◌++◌, map, Option, Some}
use Rattle.std.specs.Str.{bytes_eq}
use Rattle.sql_types.specs.declared.journal.JournalItem.{JournalItem}
use Rattle.spec_history.specs.Facts.{Fact, met, facts_of}
use Rattle.spec_history.specs.Lists.{Text, Each, Some_of, At}
use Rattle.spec_history.specs.Marks.{ImagesHave, MarksRise}
use Rattle.spec_history.specs.Meaning.{Meaning}
use Rattle.spec_history.specs.StepOrder.{Counted}
use Rattle.spec_history.specs.Transactions.{Transaction, blank, read_facts}
use Rattle.spec_history.specs.Transcripts.{Transcript}

-- a fact, and the name of the session whose transcript shows it
abbrev pub SessionFact : Type 0
SessionFact = Text × Fact

abbrev pub facts_in_order : List SessionFact → List Fact
facts_in_order order = map (λ f. f.1) order

-- those of one session
abbrev pub facts_of_session : Text → List SessionFact → List Fact
facts_of_session name [] = []
facts_of_session name (f ∷ fs) =
    if bytes_eq f.0 name then f.1 ∷ facts_of_session name fs else facts_of_session name fs

-- facts of the session of this name
abbrev pub named : Text → List Fact → List SessionFact
named name gs = map (λ g. (name, g)) gs

-- once this was shown, the transaction is open in another session
pub record IsOpenElsewhere (name : Text) (id : ℕ) (earlier : List SessionFact) : Type 0 where
  pub other : Text
  pub differs : other ≢ name
  pub transaction : Transaction
  pub stands : (read_facts blank (facts_of_session other earlier)).open_one ≡ Some transaction
  pub is : transaction.id ≡ id

-- all facts of these transcripts, each at the moment from which it was certain
pub record AreInOneOrder (q : Meaning) (setup : Option ℕ) (X : List Transcript) (J : List JournalItem)
    (order : List SessionFact) : Type 0 where
  -- each transcript is its part of the order, which has no other parts
  pub parts : (i : ℕ) (x : Transcript) → At X i x → facts_of_session x.session order ≡ facts_of q x
  pub no_others : Each (λ f. Some_of (λ x. x.session ≡ f.0) X) order
  -- what `setup` shows stands before all else
  pub setup_first : (u : ℕ) (y : Transcript) → setup ≡ Some u → At X u y
      → (later : List SessionFact) × (order ≡ named y.session (facts_of q y) ++ later)
  -- no mark falls along it
  pub marks : MarksRise J (facts_in_order order)
  -- the k-th transaction that begins has the id k; each mark is the number of commits up to it and with it;
  -- NothingCommitted comes only before the first
  pub counted : Counted J 1 0 (facts_in_order order)
  -- an image has the blocks of all digests before it
  pub images : ImagesHave J (facts_in_order order)
  -- E20 names a transaction that is open then in another session
  pub holders : (earlier later : List SessionFact) (name text : Text) (holder : ℕ)
      → order ≡ earlier ++ (name, met text holder) ∷ later → IsOpenElsewhere name holder earlier

-- there is such an order
pub record HaveOneOrder (q : Meaning) (setup : Option ℕ) (X : List Transcript)
    (J : List JournalItem) : Type 0 where
  pub order : List SessionFact
  pub is : AreInOneOrder q setup X J order
