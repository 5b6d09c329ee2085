-- The digests of a run, as its headline has them and as their file was put.
use Rattle.std.proofs.Common.{◌≡◌, ◌<◌, ◌∙◌, ◌++◌, ℕ, List, [], ◌∷◌, map, Option, None, Some, sym, arith}
use Rattle.std.specs.Prelude.{IfSome, Ok}
use Rattle.sql_types.specs.declared.digest.Digest.{Digest}
use Rattle.sql_types.specs.declared.digest.HeldDigest.{HeldDigest}
use Rattle.sql_types.specs.declared.journal.JournalItem.{JournalItem}
use Rattle.spec_history.specs.Agree.{Agree}
use Rattle.spec_history.specs.Digests.{IsDigest}
use Rattle.spec_history.specs.Inputs.{InputSession}
use Rattle.spec_history.specs.Journals.{blocks}
use Rattle.spec_history.specs.Lists.{Each}
use Rattle.spec_history.specs.Meaning.{Meaning}
use Rattle.spec_history.specs.Real.{Hashing, IsReal}
use Rattle.spec_history.specs.Transcripts.{Transcript}
use Rattle.spec_history.proofs.Grows.{blocks_append}
use Rattle.spec_model.specs.Script.{Reading}
use Rattle.spec_syntax.specs.Text.{statement_of}
use Rattle.law_behind.specs.AgreeBehind.{AgreeBehind}
use Rattle.law_behind.specs.Past.{Past}
use Rattle.law_blocks.specs.Ledger.{block_hash}
use Rattle.law_blocks.proofs.Staying.{hash_stays}
use Rattle.format_digest.specs.Reading.{IsRead}
use Rattle.format_digest.specs.Writing.{IsFile, held_form}
use Rattle.format_journal.specs.Rules.{IsJournal}
use Rattle.law_digests.specs.Issued.{AgreeOnDigests, AreIssued}
use Rattle.law_digests.proofs.Answered.{closed}
use Rattle.law_headline.specs.Held.{held, AllHeld}
use Rattle.law_headline.specs.SessionOutput.{IsMeaning}
use Rattle.server_result.specs.declared.ran.RunOutcome.{RunOutcome as Output}

-- there is a meaning of statements, whatever the hash
pub some_meaning : (h : List ℕ → List ℕ) → (hashed : (hashing : Hashing) × ((J : List JournalItem) (b : ℕ) → hashing.hash J b ≡ block_hash h statement_of J b))
    → ((reads : Reading) (hashing : Hashing) → (q : Meaning) × IsReal reads hashing q) → (q : Meaning) × IsMeaning h statement_of q
some_meaning h hashed means =
    let real = means statement_of hashed.0 in
    (real.0, record { hashing = hashed.0; real = real.1; hashes = hashed.1 })

-- ---- what agreement says of them, without a past and behind one

module _ (q : Meaning) (database : List ℕ) (input : List InputSession) (setup : Option ℕ) (X : List Transcript) (J : List JournalItem) (G : List Digest) where
  pub of_run : Agree q database input setup X J G → AgreeOnDigests q database input setup X J G
  of_run agree = record {
    statements_are_answered = agree.statements_are_answered;
    digests_are_the_journals = agree.digests_are_the_journals;
    control_is_refused_in_place = agree.control_is_refused_in_place;
    else_no_memory = agree.else_no_memory;
  }

  pub of_run_behind : (past : Past) → AgreeBehind q database past input setup X J G → AgreeOnDigests q database input setup X J G
  of_run_behind past agree = record {
    statements_are_answered = agree.statements_are_answered;
    digests_are_the_journals = agree.digests_are_the_journals;
    control_is_refused_in_place = agree.control_is_refused_in_place;
    else_no_memory = agree.else_no_memory;
  }

-- ---- their blocks

module _ (h : List ℕ → List ℕ) (database : List ℕ) where
  each_held : (q : Meaning) → IsMeaning h statement_of q → (J : List JournalItem) (G : List Digest) → Each (IsDigest q database J) G → Each (λ d. d.block < blocks J) G
      → AllHeld h statement_of database J (map held G)
  each_held q real J [] are in_blocks = tt
  each_held q real J (d ∷ G) are in_blocks = (
    record { of = are.0.of; closed = in_blocks.0; hash = are.0.hash ∙ real.real.block_hash J d.block ∙ real.hashes J d.block },
    each_held q real J G are.1 in_blocks.1,
  )

  -- what is held of a journal is held of a longer one
  pub held_later : (J K : List JournalItem) (digests : List HeldDigest) → AllHeld h statement_of database J digests → AllHeld h statement_of database (J ++ K) digests
  held_later J K [] are = tt
  held_later J K (d ∷ ds) are = (
    record {
      of = are.0.of;
      closed = let first = are.0.closed in let all = blocks_append J K in omega (arith, first, all);
      hash = are.0.hash ∙ sym (hash_stays h statement_of J K d.block are.0.closed);
    },
    held_later J K ds are.1,
  )

module _ (h : List ℕ → List ℕ) (input : List InputSession) (setup : Option ℕ) (X : List Transcript) (o : Output) (meaning : (q : Meaning) × IsMeaning h statement_of q)
    (agree : AgreeOnDigests meaning.0 o.journal.database input setup X o.journal.items o.digests) where
  pub all_held : AllHeld h statement_of o.journal.database o.journal.items (map held o.digests)
  all_held =
      let are = agree.digests_are_the_journals in
      each_held h o.journal.database meaning.0 meaning.1 o.journal.items o.digests are.each (closed meaning.0 o.journal.database setup X o.journal.items o.digests are)

  pub issued : (file : List ℕ) → IsJournal o.journal → IsFile o.digests file → IsRead file (Ok (map held_form o.digests))
      → AreIssued meaning.0 o.journal.database input setup o.journal.items o.digests file
  issued file spelling is_file read = record {
    reads = meaning.1.real.reading;
    X = X;
    agree = agree;
    database_name = spelling.database;
    count = spelling.count;
    is_file = is_file;
    read_back = read;
  }

-- what follows from the bytes of an input, where it is told
pub where_told : {P Q : List ℕ → Type 0} → ((bytes : List ℕ) → P bytes → Q bytes) → (input : Option (List ℕ)) → IfSome input P → IfSome input Q
where_told then_ None is = tt
where_told then_ (Some bytes) is = then_ bytes is
