use Rattle.std.proofs.Common.{[], refl}
use Rattle.server_visits.proofs.ImagesOfCells.{no_versions_there, versions_there}
use Rattle.server_visits.proofs.all_cells.versions_of.Goals as goal

pub returns-in-Some : goal.returns-in-Some
returns-in-Some c =
    versions_there c.args.id c.cell_of.result c.args.cells.now c.versions.result.now c.cell_of.ensures
    c.in-Some.cell.now c.in-Some.ensures.lookup.3.0 c.in-Some.ensures.lookup.1 c.versions.ensures

pub returns-in-None : goal.returns-in-None
returns-in-None c =
    no_versions_there c.args.id c.cell_of.result c.args.cells.now [] c.cell_of.ensures
    c.in-None.ensures.lookup.3 refl
