use Rattle.std.proofs.Common.{sym, subst}
use Rattle.server_session.specs.KeptCell.{catalog_seen}
use Rattle.server_session.specs.ControlPoints.{KeepsStatement}
use Rattle.server_session.specs.Steps.{ComesOn, Visits}
use Rattle.server_session.specs.declared.seat.Seat.{Seat}
use Rattle.server_visit_catalog.proofs.CatalogVisits.{look_comes, look_stays, look_visits, may_look_now}
use Rattle.server_visit_catalog.proofs.visits.look.Goals as goal

pub look_for-stage-requires-after_bounds : goal.look_for-stage-requires-after_bounds
look_for-stage-requires-after_bounds g c κs within = may_look_now g.H.Hash32.digest c.args.seat.now c.args.catalog.now c.requires.among c.requires.here
    c.in-Some.running c.in-Some.is c.in-Some-stmt.stmt c.in-Some-stmt.is

pub returns-clause-visits : goal.returns-clause-visits
returns-clause-visits g c = subst (λ (z : Seat _). Visits g.H.Hash32.digest c.args.seat.now (catalog_seen c.args.catalog.now) (catalog_seen c.look_for-stage.new.catalog) z) (sym c.set_stage.ensures)
    (look_visits g.H.Hash32.digest c.args.seat.now c.args.catalog.now c.look_for-stage.new.catalog c.in-Some.running c.in-Some.is c.in-Some-stmt.stmt c.in-Some-stmt.is
    c.look_for-stage.new.running c.look_for-stage.result c.look_for-stage.ensures c.requires.here)

pub returns-clause-comes_on : goal.returns-clause-comes_on
returns-clause-comes_on g c = subst (λ (z : Seat _). ComesOn c.args.seat.now (catalog_seen c.args.catalog.now) (catalog_seen c.look_for-stage.new.catalog) z) (sym c.set_stage.ensures)
    (look_comes g.H.Hash32.digest c.args.seat.now c.args.catalog.now c.look_for-stage.new.catalog c.in-Some.running c.in-Some.is c.in-Some-stmt.stmt c.in-Some-stmt.is
    c.look_for-stage.new.running c.look_for-stage.result c.look_for-stage.ensures c.requires.here)

pub returns-clause-stays : goal.returns-clause-stays
returns-clause-stays g c = subst (λ (z : Seat _). KeepsStatement c.args.seat.now z) (sym c.set_stage.ensures)
    (look_stays g.H.Hash32.digest c.args.seat.now c.args.catalog.now c.look_for-stage.new.catalog c.in-Some.running c.in-Some.is c.in-Some-stmt.stmt c.in-Some-stmt.is
    c.look_for-stage.new.running c.look_for-stage.result c.look_for-stage.ensures c.requires.here)
