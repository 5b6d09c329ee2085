use Rattle.std.proofs.Common.{◌≡◌, drop, map}
use Rattle.spec_model.specs.Lists.{all_some}
use Rattle.spec_model.specs.Locks.{key_inserted}
use Rattle.sql_parts.specs.InTurn.{some_after}
use Rattle.sql_locks.proofs.inserted.keys_of.Given as goal

abbrev pub invariant-loop-row : goal.invariant-loop-row
invariant-loop-row l =
    some_after l.keys (map (key_inserted l.table.columns l.names) (drop l.row-index l.rows))
    ≡ all_some (map (key_inserted l.table.columns l.names) l.rows)
