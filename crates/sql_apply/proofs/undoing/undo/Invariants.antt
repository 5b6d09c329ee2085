use Rattle.std.proofs.Common.{◌≡◌, ◌++◌, take, drop, map}
use Rattle.spec_model.specs.Catalog.{with_versions}
use Rattle.spec_model.specs.Undo.{versions_undone}
use Rattle.sql_apply.proofs.undoing.undo.Given as goal

abbrev pub invariant-loop-table : goal.invariant-loop-table
invariant-loop-table l =
    l.table-items ≡ map (with_versions (versions_undone l.tx l.seq)) (take l.table-index l.fn.tables.items) ++ drop l.table-index l.fn.tables.items
