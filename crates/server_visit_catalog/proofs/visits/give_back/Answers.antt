use Rattle.std.proofs.Common.{◌∙◌, ap, sym, subst}
use Rattle.spec_model.specs.Holds.{released}
use Rattle.server_session.specs.CatalogVisits.{with_holds}
use Rattle.server_session.specs.KeptCell.{catalog_seen}
use Rattle.server_session.specs.ControlPoints.{KeepsStatement}
use Rattle.server_session.specs.Steps.{ComesOn, Visits}
use Rattle.server_session.specs.declared.seat.Seat.{Seat}
use Rattle.server_visit_catalog.proofs.CatalogVisits.{give_comes, give_stays, give_visits}
use Rattle.server_visit_catalog.proofs.visits.give_back.Goals as goal

pub returns-clause-visits : goal.returns-clause-visits
returns-clause-visits g c = subst (λ (z : Seat _). Visits g.H.Hash32.digest c.args.seat.now (catalog_seen c.args.catalog.now) (catalog_seen c.give_back.new.self) z) (sym c.set_stage.ensures)
    (give_visits g.H.Hash32.digest c.args.seat.now c.args.catalog.now c.give_back.new.self c.args.refusal c.stopped.result c.requires.here c.in-Some.running c.in-Some.is
    (λ h o p. c.give_back.ensures ∙ ap (λ n. with_holds (released c.args.catalog.now.holds n) c.args.catalog.now) (c.id.ensures h o p)) c.stopped.ensures)

pub returns-clause-comes_on : goal.returns-clause-comes_on
returns-clause-comes_on g c = subst (λ (z : Seat _). ComesOn c.args.seat.now (catalog_seen c.args.catalog.now) (catalog_seen c.give_back.new.self) z) (sym c.set_stage.ensures)
    (give_comes c.args.seat.now c.args.catalog.now c.give_back.new.self c.args.refusal c.stopped.result c.requires.here c.in-Some.running c.in-Some.is c.stopped.ensures)

pub returns-clause-stays : goal.returns-clause-stays
returns-clause-stays g c = subst (λ (z : Seat _). KeepsStatement c.args.seat.now z) (sym c.set_stage.ensures)
    (give_stays c.args.seat.now c.args.catalog.now c.give_back.new.self c.args.refusal c.stopped.result c.requires.here c.in-Some.running c.in-Some.is c.stopped.ensures)
