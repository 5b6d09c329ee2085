use Rattle.std.proofs.Common.{None, sym, subst}
use Rattle.server_session.specs.Steps.{VisitsAll}
use Rattle.server_session.specs.declared.stage.ControlPoint.{ControlPoint}
use Rattle.server_session.proofs.Alone.{then_point}
use Rattle.server_visits.proofs.Keeping.{lacks_image}
use Rattle.server_visits.proofs.image_visit.keep_nothing.Goals as goal

pub returns-clause-visits : goal.returns-clause-visits
returns-clause-visits g c = subst (λ (p : ControlPoint). VisitsAll g.H.Hash32.digest c.args.seat.now c.args.cells.now None (then_point c.args.seat.now p)) (sym c.put_point.ensures)
    (lacks_image g.H.Hash32.digest c.args.seat.now c.args.cells.now c.requires)
