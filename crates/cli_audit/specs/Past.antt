-- From which journal under a name a database goes on, and what is called by a command that goes on from it.
use Rattle.std.specs.Prelude.{◌≡◌, ◌⊎◌, ℕ, List, [], Option, Some, Result}
use Rattle.base_io.specs.declared.failed.Failed.{Failed}
use Rattle.base_io.specs.Store.{Names}
use Rattle.sql_types.specs.declared.journal.Journal.{Journal}
use Rattle.spec_model.specs.Journals.{IsLegal}
use Rattle.spec_syntax.specs.Text.{statement_of}
use Rattle.audit_replay.specs.GoesOn.{CannotGoOn, NoneEndsInside}
use Rattle.audit_replay.specs.declared.running.ReplayErr.TheVariants as errors
use Rattle.cli_audit.specs.declared.status.Status.{Status}
use Rattle.cli_audit.specs.declared.status.Status.TheVariants as status
use Rattle.cli_audit.specs.Answer.{HasRead}
use Rattle.cli_audit.specs.AsOf.{AreReadsBehind, HasReadBehind}
use Rattle.cli_audit.specs.Calls.{AreReads}
use Rattle.cli_audit.specs.Replay.{JournalUnder, LacksJournal}

-- ---- what is read

-- a database may go on from it: it is legal, where a text is the statement that it is where a server runs, and no
-- transaction has its end among its statements
abbrev pub MayGoOn : Journal → Type 0
MayGoOn J = IsLegal statement_of J.items × NoneEndsInside statement_of J.items

-- such a journal stands under the name
abbrev pub PastUnder : List ℕ → Option Names → Type 0
PastUnder name names = JournalUnder name names MayGoOn

-- this statement of this item, both from 0, is the first that is answered otherwise when the journal is run
-- again, or of a legal journal the first that ends a transaction which it stands in; so none goes on from it
pub record IsRefusedAt (J : Journal) (item statement : ℕ) : Type 0 where
  pub not_on : MayGoOn J → ⊥
  pub cannot : CannotGoOn statement_of (errors.Differs item statement) J.items

-- why no database goes on from what stands under a name
abbrev pub LacksPast : Status → List ℕ → Option Names → Type 0 → Type 0
LacksPast (status.Journal (Some at)) name names vault =
    JournalUnder name names (λ J. IsRefusedAt J at.0 at.1)
LacksPast ended name names vault = LacksJournal ended name names vault

-- ---- what is called

-- what is left of an input that is told: it is read behind the journal, and whole before any file is put
abbrev pub HasReadBehindPast : Status → List ℕ → Option (List ℕ) → Type 0
HasReadBehindPast (status.Journal at) input rest = rest ≡ Some input
HasReadBehindPast status.VaultFault input rest = (rest ≡ Some input) ⊎ HasRead status.VaultFault input rest
HasReadBehindPast ended input rest = HasReadBehind ended input rest

-- what the source answered
abbrev pub AreReadsBehindPast : Status → List (Result ℕ Failed) → Type 0
AreReadsBehindPast (status.Journal at) answers = answers ≡ []
AreReadsBehindPast status.VaultFault answers = (answers ≡ []) ⊎ AreReads status.VaultFault answers
AreReadsBehindPast ended answers = AreReadsBehind ended answers
