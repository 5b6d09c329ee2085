use Rattle.std.proofs.Common.{◌≡◌, ◌++◌, ◌+◌, drop, map, length}
use Rattle.spec_model.specs.Lists.{numbered}
use Rattle.spec_model.specs.SystemTables.{index_row}
use Rattle.sql_system.specs.Started.{started_rows}
use Rattle.sql_system.proofs.system.starts_of_index.Given as goal

abbrev pub invariant-loop-place : goal.invariant-loop-place
invariant-loop-place l =
    l.starts ++ started_rows l.stored (map (index_row l.def.id (length l.def.indexes + 1) l.index.name) (numbered (l.place + 1) (drop l.place l.ordinals)))
    ≡ started_rows l.stored (map (index_row l.def.id (length l.def.indexes + 1) l.index.name) (numbered 1 l.ordinals))
