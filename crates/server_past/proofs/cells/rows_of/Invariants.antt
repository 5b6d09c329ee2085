use Rattle.std.proofs.Common.{◌≡◌, ◌++◌, map}
use Rattle.std.specs.List.{AllByRecursion}
use Rattle.spec_model.specs.Runs.{Rising}
use Rattle.server_past.specs.PastCells.{rows_kept}
use Rattle.server_past.proofs.cells.rows_of.Given as goal

abbrev pub invariant-loop-table : goal.invariant-loop-table
invariant-loop-table l = record {
  cells : l.cells.items ++ map rows_kept l.table-iterator.rest.items ≡ map rows_kept l.fn.tables.items;
  defs : l.defs.items ++ map (λ t. t.def) l.table-iterator.rest.items ≡ l.fn.defs.items ++ map (λ t. t.def) l.fn.tables.items;
  rising : AllByRecursion (λ t. Rising t.versions) l.table-iterator.rest.items;
}
