use Rattle.std.proofs.Common.{◌≡◌, ◌++◌, drop}
use Rattle.audit_columns.specs.Positions.{placed_from}
use Rattle.audit_columns.proofs.positions.placed_ids.Given as goal

abbrev pub invariant-loop-place : goal.invariant-loop-place
invariant-loop-place l = l.placed.items ++ placed_from l.place (drop l.place l.entries) ≡ placed_from 0 l.entries
