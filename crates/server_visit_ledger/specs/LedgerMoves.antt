-- What a seat does in the ledger's cell, and what a visit of it makes of the seat.
use Rattle.std.specs.Prelude.{ℕ, ◌≡◌, ◌+◌, ◌++◌, Bool, true, false, List, [], ◌∷◌, map, Option, Some, None, Result, Ok, Err}
use Rattle.sql_value.specs.declared.refusal.Refusal.TheVariants.{NothingCommitted, NoMemory}
use Rattle.sql_types.specs.declared.journal.JournalItem.TheVariants.{Tx}
use Rattle.sql_types.specs.declared.reply.Reply.{Reply}
use Rattle.sql_types.specs.declared.reply.Reply.TheVariants as reply
use Rattle.sql_types.specs.declared.table.TableDef.{TableDef}
use Rattle.spec_model.specs.Journals.{Line, tx_count}
use Rattle.spec_model.specs.Replies.{reply_text}
use Rattle.server_session.specs.Lists.{Text}
use Rattle.server_session.specs.Serial.{Differ}
use Rattle.server_session.specs.LedgerVisits.{is_read_only, with_item}
use Rattle.server_session.specs.Seats.{OpenTransaction}
use Rattle.server_session.specs.Represents.{Represents}
use Rattle.server_session.specs.Roots.{Root, roots_of_trees}
use Rattle.store_ledger.specs.Commits.{new_entry}
use Rattle.store_ledger.specs.HashedCell.{HashedCell}
use Rattle.store_ledger.specs.declared.cell.IssuedDigest.{IssuedDigest}
use Rattle.store_ledger.specs.declared.digest_err.DigestErr.{DigestErr}
use Rattle.store_ledger.specs.declared.digest_err.DigestErr.TheVariants.{NoBlock, Memory}
use Rattle.server_visit_ledger.specs.AssigningId.{assigned_id_stage}
use Rattle.server_session.specs.KeptCell.{KeptCell}
use Rattle.server_session.specs.ControlPoints.{KeepsStatement}
use Rattle.server_session.specs.Sits.{line_of}
use Rattle.server_session.specs.Stages.{stopped_stage, unsaid}
use Rattle.server_session.specs.Steps.{ComesOn, Visits}
use Rattle.sql_types.specs.declared.end_line.EndLine.{EndLine}
use Rattle.sql_types.specs.declared.end_line.EndLine.TheVariants.{Committed, Ended}
use Rattle.server_visit_ledger.specs.declared.ledger_work.LedgerWork.{LedgerWork}
use Rattle.server_visit_ledger.specs.declared.ledger_work.LedgerWork.TheVariants as work
use Rattle.server_session.specs.declared.running.Running.{Running}
use Rattle.server_session.specs.declared.seat.Seat.{Seat}
use Rattle.server_session.specs.declared.stage.ControlPoint.{ControlPoint}
use Rattle.server_session.specs.declared.stage.ControlPoint.TheVariants.{Inside}
use Rattle.server_session.specs.declared.stage.Stage.{Stage}
use Rattle.server_session.specs.declared.stage.Stage.TheVariants.{AssigningId, Committing, RollingBack, Issuing, Made, LacksIndex, Replied, Answering}

-- ---- what it does there

abbrev pub stage_work : Stage → LedgerWork
stage_work (AssigningId explicit) = work.AssignId explicit
stage_work Committing = work.Commit
stage_work (Replied r) = work.Commit
stage_work (Made def indexed) = work.Commit
stage_work Issuing = work.Issue
stage_work _ = work.End

abbrev pub work_of : ControlPoint → LedgerWork
work_of (Inside stage) = stage_work stage
work_of _ = work.End

-- a visit of a cell that brings the seat on
pub record VisitsOn {H : Type 0} (digest : H → List ℕ → List ℕ) (y : Seat H) (c d : KeptCell)
    (z : Seat H) : Type 0 where
  pub visits : Visits digest y c d z
  pub comes_on : ComesOn y c d z
  pub stays : KeepsStatement y z

-- ---- where it stands then

-- the seat with this transaction, at this point of the same statement
abbrev pub moved : {H : Type 0} → Seat H → Option (Running H) → ControlPoint → Seat H
moved y r p = record {
  hasher = y.hasher;
  name = y.name;
  started = y.started;
  images = y.images;
  text = y.text;
  stmt = y.stmt;
  running = r;
  point = p;
}

-- there is no memory for an index, which may have to be dropped
abbrev pub without_index : TableDef → Stage
without_index def = Answering (record { reply = reply.Refused NoMemory; said = false; def = Some def })

-- once its transaction was committed
abbrev pub committed_stage : Stage → Stage
committed_stage Committing = unsaid reply.NoOutput
committed_stage (Replied r) = unsaid r
committed_stage (Made def indexed) = unsaid reply.Made
committed_stage stage = stage

-- once it ended without a commit
abbrev pub ended_stage : Stage → Stage
ended_stage Committing = unsaid reply.NoOutput
ended_stage RollingBack = unsaid reply.NoOutput
ended_stage (Replied r) = unsaid r
ended_stage (Made def indexed) = without_index def
ended_stage (LacksIndex def) = without_index def
ended_stage stage = stage

-- without the memory for a commit
abbrev pub lacking_stage : Stage → Stage
lacking_stage (Made def indexed) = without_index def
lacking_stage stage = stopped_stage NoMemory

abbrev pub inside_with : (Stage → Stage) → ControlPoint → ControlPoint
inside_with f (Inside stage) = Inside (f stage)
inside_with f p = p

-- ---- its transaction

-- the id of the transaction
abbrev pub IsIdOf : {H : Type 0} → (H → List ℕ → List ℕ) → ℕ → Running H → Type 0
IsIdOf {H} digest id r = (h : H) (o : OpenTransaction) → Represents digest h r.context o → id ≡ o.id

-- its end is fixed
abbrev pub with_end : {H : Type 0} → EndLine → Running H → Running H
with_end line r = record {
  context = r.context;
  script = r.script;
  visited = r.visited;
  explicit = r.explicit;
  end = Some line;
}

-- with this line, which has its id
abbrev pub IsFixed : {H : Type 0} → (H → List ℕ → List ℕ) → (ℕ → EndLine) → Running H → Option (Running H)
    → Type 0
IsFixed digest line r q = (id : ℕ) × IsIdOf digest id r × (q ≡ Some (with_end (line id) r))

abbrev pub AreFixed : {H : Type 0} → (H → List ℕ → List ℕ) → (ℕ → EndLine) → Option (Running H)
    → Option (Running H) → Type 0
AreFixed digest line None q = q ≡ None
AreFixed digest line (Some r) q = IsFixed digest line r q

-- one of a statement's own alone; with true, BEGIN opened it
abbrev pub IsOwnFixed : {H : Type 0} → (H → List ℕ → List ℕ) → (ℕ → EndLine) → Bool → Running H
    → Option (Running H) → Type 0
IsOwnFixed digest line true r q = q ≡ Some r
IsOwnFixed digest line false r q = IsFixed digest line r q

abbrev pub AreOwnFixed : {H : Type 0} → (H → List ℕ → List ℕ) → (ℕ → EndLine) → Option (Running H)
    → Option (Running H) → Type 0
AreOwnFixed digest line None q = q ≡ None
AreOwnFixed digest line (Some r) q = IsOwnFixed digest line r.explicit r q

abbrev pub ended_after : ℕ → ℕ → EndLine
ended_after after id = Ended id after

abbrev pub committed_at : ℕ → ℕ → EndLine
committed_at place id = Committed id place

-- ---- the seat behind each visit

-- it has a transaction with the id that was drawn, or is refused without one
abbrev pub HasAssignedId : {H : Type 0} → (H → List ℕ → List ℕ) → Bool → Option (Running H) → Seat H → Seat H
    → Type 0
HasAssignedId digest explicit (Some r) y z = (id : ℕ) × IsIdOf digest id r
    × (z ≡ moved y (Some r) (Inside (assigned_id_stage explicit id)))
HasAssignedId digest explicit None y z = z ≡ moved y y.running (Inside (stopped_stage NoMemory))

-- its transaction ended without a commit, after so many
pub record HasEnded {H : Type 0} (digest : H → List ℕ → List ℕ) (after : ℕ) (y z : Seat H) : Type 0 where
  pub running : Option (Running H)
  pub fixed : AreFixed digest (ended_after after) y.running running
  pub seat : z ≡ moved y running (inside_with ended_stage y.point)

-- its transaction was committed at this place
pub record HasCommitted {H : Type 0} (digest : H → List ℕ → List ℕ) (place : ℕ) (y z : Seat H) : Type 0 where
  pub running : Option (Running H)
  pub fixed : AreFixed digest (committed_at place) y.running running
  pub seat : z ≡ moved y running (inside_with committed_stage y.point)

-- there is no memory for the commit: a transaction of the statement's own ends, after so many
pub record HasLacked {H : Type 0} (digest : H → List ℕ → List ℕ) (after : ℕ) (y z : Seat H) : Type 0 where
  pub running : Option (Running H)
  pub fixed : AreOwnFixed digest (ended_after after) y.running running
  pub seat : z ≡ moved y running (inside_with lacking_stage y.point)

-- ---- the commit

-- the statement under way, where it comes last in the script
abbrev pub last_in : Stage → Text → List Line
last_in (Replied r) text = (text, reply_text r) ∷ []
last_in (Made def indexed) text = (text, reply_text reply.Made) ∷ []
last_in _ text = []

abbrev pub last_at : ControlPoint → Text → List Line
last_at (Inside stage) text = last_in stage text
last_at _ text = []

-- a line of the script, where there is one
abbrev pub line_with : Text → Option Text → List Line
line_with text (Some answer) = (text, answer) ∷ []
line_with text None = []

-- what the ledger's cell is once the seat's transaction is committed at this place, with its script
pub record CommitsIt {H : Type 0} (digest : H → List ℕ → List ℕ) (y : Seat H) (r : Running H)
    (c d : HashedCell) (n : ℕ) : Type 0 where
  pub id : ℕ
  pub is_id : IsIdOf digest id r
  pub roots : List Root
  pub are_roots : (h : H) (o : OpenTransaction) → Represents digest h r.context o
      → Differ (map (λ t. t.table) o.trees) → roots ≡ roots_of_trees (digest h) o.trees
  pub acts : (h : H) (o : OpenTransaction) → Represents digest h r.context o
      → Differ (map (λ t. t.table) o.trees) → is_read_only o ≡ false
  pub place : n ≡ tx_count c.cell.items + 1
  pub cell : d.cell ≡ with_item (new_entry id y.name y.started roots)
      (Tx id y.name y.started r.explicit (map line_of r.script.items ++ last_at y.point y.text)) c.cell
  pub hash : d.hash ≡ c.hash

-- the transaction left no event
abbrev pub LeftNothing : {H : Type 0} → (H → List ℕ → List ℕ) → Running H → Type 0
LeftNothing {H} digest r = (h : H) (o : OpenTransaction) → Represents digest h r.context o
    → Differ (map (λ t. t.table) o.trees) → is_read_only o ≡ true

abbrev pub Commits : {H : Type 0} → (H → List ℕ → List ℕ) → Seat H → Option (Running H) → HashedCell
    → HashedCell → ℕ → Type 0
Commits digest y None c d place = ⊥
Commits digest y (Some r) c d place = CommitsIt digest y r c d place

abbrev pub IsLeftNothing : {H : Type 0} → (H → List ℕ → List ℕ) → Option (Running H) → Type 0
IsLeftNothing digest None = ⊥
IsLeftNothing digest (Some r) = LeftNothing digest r

-- its transaction is committed at a place; or it left no event, and the cell stays as it is
abbrev pub Tries : {H : Type 0} → (H → List ℕ → List ℕ) → Seat H → HashedCell → HashedCell → Option ℕ → Type 0
Tries digest y c d (Some place) = Commits digest y y.running c d place
Tries digest y c d None = IsLeftNothing digest y.running × (d ≡ c)

-- ---- the digest

-- what the statement is answered for a digest
abbrev pub digest_reply : Result IssuedDigest DigestErr → Reply
digest_reply (Ok issued) = reply.Digest issued.block issued.hash
digest_reply (Err NoBlock) = reply.Refused NothingCommitted
digest_reply (Err Memory) = reply.Refused NoMemory
