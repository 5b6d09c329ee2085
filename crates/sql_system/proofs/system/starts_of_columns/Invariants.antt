use Rattle.std.proofs.Common.{◌≡◌, ◌++◌, ◌+◌, drop, map}
use Rattle.spec_model.specs.Lists.{numbered}
use Rattle.spec_model.specs.SystemTables.{column_row}
use Rattle.sql_system.specs.Started.{started_rows}
use Rattle.sql_system.proofs.system.starts_of_columns.Given as goal

abbrev pub invariant-loop-place : goal.invariant-loop-place
invariant-loop-place l =
    l.starts ++ started_rows l.stored (map (column_row l.id) (numbered (l.place + 1) (drop l.place l.columns)))
    ≡ started_rows l.stored (map (column_row l.id) (numbered 1 l.columns))
