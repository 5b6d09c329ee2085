-- How far a statement came with a visit of a table's cell.
use Rattle.std.specs.Prelude.{ℕ, ◌≡◌, Bool, true, false, List, Result, Ok, Err, Option, Some, None}
use Rattle.sql_value.specs.declared.refusal.Refusal.{Refusal}
use Rattle.sql_value.specs.declared.refusal.Refusal.TheVariants as refusal
use Rattle.sql_types.specs.declared.reply.Reply.{Reply}
use Rattle.sql_types.specs.declared.reply.Reply.TheVariants as reply
use Rattle.sql_types.specs.declared.statement.Stmt.{Stmt}
use Rattle.sql_types.specs.declared.table.TableDef.{TableDef}
use Rattle.spec_model.specs.Catalog.{NamedPart}
use Rattle.spec_model.specs.Rows.{Row}
use Rattle.server_session.specs.Cells.{TableCell}
use Rattle.server_session.specs.Moves.{put_in}
use Rattle.server_session.specs.TableVisits.{with_indexes}
use Rattle.store_table.specs.declared.stop.TableErr.{TableErr}
use Rattle.store_table.specs.declared.stop.TableErr.TheVariants.{Refused, Locked, Memory}
use Rattle.server_visit_table.specs.InTable.{HasRun, KeepsRest}
use Rattle.server_session.specs.Stages.{done_stage, said, stopped_behind_lock}
use Rattle.server_session.specs.VisitedCells.{next_back, table_cell}
use Rattle.server_session.specs.declared.running.Running.{Running}
use Rattle.server_session.specs.declared.stage.Stage.{Stage}
use Rattle.server_session.specs.declared.stage.Stage.TheVariants.{Made, LacksIndex, GoingBack}

-- ---- on the way back to a savepoint

abbrev pub back_by : ℕ → ℕ → Option ℕ → Stage
back_by seq passed (Some i) = GoingBack seq passed
back_by seq passed None = said reply.Back

-- so many of these cells were visited
abbrev pub back_stage : ℕ → ℕ → List ℕ → Stage
back_stage seq passed left = back_by seq passed (next_back left passed)

-- ---- a statement of rows

abbrev pub stage_by : Bool → Bool → Result Reply Refusal → Stage
stage_by explicit fresh (Ok r) = done_stage explicit r
stage_by explicit fresh (Err e) = stopped_behind_lock fresh e

-- where it is stopped it takes no lock in the cell
abbrev pub left_by : ℕ → Result Reply Refusal → List ℕ → List ℕ
left_by cell (Ok r) left = put_in cell left
left_by cell (Err e) left = left

-- it ran in its table's cell, and its seat stands there then
pub record RunsInTableTo {H : Type 0} (digest : H → List ℕ → List ℕ) (c : TableCell) (r : Running H) (named : NamedPart)
    (fresh : Bool) (s : Stmt) (d : TableCell) (q : Running H) (after : Stage) : Type 0 where
  pub result : Result Reply Refusal
  pub run : HasRun digest c r.context named s result d q.context
  pub left : q.visited.left ≡ left_by (table_cell named.0.id) result r.visited.left
  pub rest : KeepsRest r q
  pub stage : after ≡ stage_by r.explicit fresh result

-- ---- what the cell's calls answer

abbrev pub stopped_reply : TableErr → Result Reply Refusal
stopped_reply (Refused e) = Ok (reply.Refused e)
stopped_reply (Locked holder) = Err (refusal.Locked holder)
stopped_reply Memory = Err refusal.NoMemory

abbrev pub changed_reply : Result ℕ TableErr → Result Reply Refusal
changed_reply (Ok count) = Ok (reply.Changed count)
changed_reply (Err stop) = stopped_reply stop

abbrev pub read_reply : Result (List Row) TableErr → Result Reply Refusal
read_reply (Ok rows) = Ok (reply.Rows rows)
read_reply (Err stop) = stopped_reply stop

-- ---- CREATE INDEX

-- the cell has the index; or there is no memory for it, and the cell is as it was
abbrev pub IndexMade : {H : Type 0} → TableCell → Running H → TableDef → TableCell → Running H → Bool → Type 0
IndexMade c r def d q true = (d ≡ with_indexes def c)
    × (q.visited.left ≡ put_in (table_cell def.id) r.visited.left)
IndexMade c r def d q false = (d ≡ c) × (q.visited.left ≡ r.visited.left)

abbrev pub made_stage : TableDef → Bool → Stage
made_stage def true = Made def true
made_stage def false = LacksIndex def
