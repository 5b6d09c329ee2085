use Rattle.server_visit_catalog.proofs.CatalogReleased.{released_comes, released_so}
use Rattle.server_visit_catalog.proofs.visits.release_catalog.Goals as goal

pub returns-clause-visits : goal.returns-clause-visits
returns-clause-visits g c = λ a. released_so g.H.Hash32.digest c.args.seat.now c.args.catalog.now a c.requires.here c.in-Some.running c.in-Some.is
    c.leave_catalog.new.catalog c.leave_catalog.new.running c.leave_catalog.ensures.same c.leave_catalog.ensures.left c.leave_catalog.ensures.cell

pub returns-clause-comes_on : goal.returns-clause-comes_on
returns-clause-comes_on g c = released_comes g.H.Hash32.digest c.args.seat.now c.args.catalog.now c.requires.among c.requires.here c.in-Some.running c.in-Some.is
    c.leave_catalog.new.catalog c.leave_catalog.new.running c.leave_catalog.ensures.same c.leave_catalog.ensures.left c.leave_catalog.ensures.cell
