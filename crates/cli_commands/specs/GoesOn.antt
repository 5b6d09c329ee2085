-- What a run comes to that goes on from the journal under a name, and when such a call ends with each status.
use Rattle.std.specs.Prelude.{ℕ, ◌≡◌, ◌⊎◌, ◌++◌, List, ◌∷◌, map, Option, IfSome}
use Rattle.base_io.specs.Store.{Names}
use Rattle.sql_types.specs.declared.digest.HeldDigest.{HeldDigest}
use Rattle.sql_types.specs.declared.journal.Journal.{Journal}
use Rattle.sql_types.specs.declared.journal.JournalItem.{JournalItem}
use Rattle.spec_history.specs.Lists.{Text, Each}
use Rattle.spec_syntax.specs.Text.{statement_of}
use Rattle.spec_verify.specs.declared.place.Verdict.TheVariants.{Yes}
use Rattle.spec_verify.specs.Bytes.{verdict_of}
use Rattle.law_accepts.specs.Held.{AllHeld}
use Rattle.format_lines.specs.Line.{Statement}
use Rattle.format_lines.specs.Sessions.{sessions_of}
use Rattle.format_sections.specs.RunSections.{RunSections}
use Rattle.audit_replay.specs.GoesOn.{LeadsOn}
use Rattle.audit_replay.specs.declared.past.Past.{Past}
use Rattle.server_session.specs.KeptCell.{KeptCell}
use Rattle.server_step.specs.Starts.{Starts, past_in}
use Rattle.server_past.specs.PastCells.{past_seen}
use Rattle.server_step.specs.Came.{Run}
use Rattle.server_step.specs.CameBehind.{CameToBehind}
use Rattle.server_result.specs.Moments.{said_with}
use Rattle.server_step.specs.RunOutcome.{IsRunOutcome}
use Rattle.server_result.specs.declared.ran.RunOutcome.{RunOutcome as Output}
use Rattle.workload_run.specs.Agreed.{RunResult}
use Rattle.workload_run.specs.CameTo as all
use Rattle.workload_run.specs.CameTo.{IsOf}
use Rattle.cli_words.specs.Commands.{Settings}
use Rattle.cli_audit.specs.declared.status.Status.{Status}
use Rattle.cli_audit.specs.declared.status.Status.TheVariants.{Done, Limit, SourceFault, SinkFault, VaultFault, Missing, Journal as IllegalJournal, Form, Memory}
use Rattle.cli_audit.specs.AsOf.{IsUnread}
use Rattle.cli_audit.specs.Past.{LacksPast, PastUnder}
use Rattle.cli_commands.specs.Input.{InputForm, IsInput, IsBeyond, LacksForm}

-- ---- where a run starts

-- With these cells a run of this database starts, in blocks of at most so many entries, behind the past to which the
-- journal leads.
pub record StartsFrom (h : List ℕ → List ℕ) (size : ℕ) (J : Journal) (database : Text) (cells : List KeptCell)
    : Type 0 where
  pub past : Past
  pub leads : LeadsOn h size J past
  pub of : database ≡ past.database
  pub starts : Starts h database size cells
  pub behind : past_in cells ≡ past_seen past

-- ---- what it comes to

-- `verify` says Yes of these bytes with any digests of blocks that the journal closed
abbrev pub IsAcceptedWith : (List ℕ → List ℕ) → Journal → List ℕ → Type 0
IsAcceptedWith h J image = (digests : List HeldDigest) → AllHeld h statement_of J.database J.items digests
    → verdict_of h digests image ≡ Yes

-- What a run leaves goes on from this journal: its own begins with the items of that and is of one database with it,
-- and each image is accepted with every digest that was ever issued of blocks which that closed.
pub record Continues (h : List ℕ → List ℕ) (J : Journal) (o : Output) : Type 0 where
  pub database : o.journal.database ≡ J.database
  pub new : List JournalItem
  pub begins : o.journal.items ≡ J.items ++ new
  pub accepted : Each (IsAcceptedWith h J) (o.image ∷ map (λ k. k.1) o.images)

-- The lines came to this by these settings behind the past that the journal is, where the clock says such moments:
-- all that is promised of a run holds with that past.
pub record LinesComeToBehind (h : List ℕ → List ℕ) (how : Settings) (clock : ℕ → Type 0) (J : Journal)
    (statements : List Statement) (o : Output) : Type 0 where
  pub past : Past
  pub leads : LeadsOn h how.block_size J past
  pub run : Run
  pub came : CameToBehind h J.database how.block_size (past_seen past) (said_with how.clock clock) statements run
  pub is : IsRunOutcome h (sessions_of statements) run o
  pub continues : Continues h J o

-- The same of sections, whose sessions were run side by side.
pub record SectionsComeToBehind (h : List ℕ → List ℕ) (how : Settings) (clock : ℕ → Type 0) (J : Journal)
    (all_sections : RunSections) (o : Output) : Type 0 where
  pub past : Past
  pub leads : LeadsOn h how.block_size J past
  pub left : RunResult
  pub came : all.CameToBehind h J.database how.block_size (past_seen past) (said_with how.clock clock) all_sections left
  pub is : IsOf h all_sections left o
  pub continues : Continues h J o

-- ---- how the call ends

-- Why a run doesn't start that goes on from the journal under a name: none goes on from what stands there, or else the
-- input isn't read to its end.
abbrev pub LacksStart : Status → List ℕ → Option Names → Option (List ℕ) → Type 0 → Type 0 → Type 0
LacksStart status journal names input source vault =
    LacksPast status journal names vault ⊎ (PastUnder journal names × IsUnread status input source)

-- Why a status comes of a command that goes on from the journal under a name and then runs an input of a form. The
-- journal is looked at first, so what the input is counts only where a run can go on from that. The causes of Done,
-- Limit, Missing, Journal and Form exclude one another, so each of these comes exactly where its cause stands,
-- unless a fault or want of memory comes before it.
abbrev pub CauseBehind : {A : Type 0} → InputForm A → Status → List ℕ → Option Names → Option (List ℕ)
    → Type 0 → Type 0 → Type 0 → Type 0
CauseBehind form Done journal names input source vault sink =
    PastUnder journal names × IfSome input (IsInput form)
CauseBehind form Limit journal names input source vault sink =
    LacksPast Limit journal names vault ⊎ (PastUnder journal names × IfSome input (IsBeyond form))
CauseBehind form (Missing which) journal names input source vault sink =
    LacksPast (Missing which) journal names vault
CauseBehind form (IllegalJournal at) journal names input source vault sink =
    LacksPast (IllegalJournal at) journal names vault
CauseBehind form (Form line) journal names input source vault sink =
    PastUnder journal names × IfSome input (λ bytes. LacksForm form bytes line)
CauseBehind form SourceFault journal names input source vault sink = source
CauseBehind form SinkFault journal names input source vault sink = sink
CauseBehind form VaultFault journal names input source vault sink = vault
CauseBehind form Memory journal names input source vault sink = Unit {0}
CauseBehind form _ journal names input source vault sink = ⊥
