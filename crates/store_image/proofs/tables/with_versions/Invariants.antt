use Rattle.std.proofs.Common.{◌≡◌}
use Rattle.store_image.specs.Known.{has_in}
use Rattle.law_server.specs.CellsImage.{committed_tables}
use Rattle.store_image.proofs.tables.with_versions.Given as goal

abbrev pub invariant-loop-def : goal.invariant-loop-def
invariant-loop-def g l =
    l.tables.items ≡ committed_tables (has_in l.known) (g.C.ShownCells.cells l.cells) l.yielded
