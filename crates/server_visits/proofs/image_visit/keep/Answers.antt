use Rattle.std.proofs.Common.{ℕ, Some, sym, ap, ◌∙◌, subst}
use Rattle.server_session.specs.Steps.{VisitedAll, image_in, items_in}
use Rattle.server_session.specs.declared.stage.ControlPoint.{ControlPoint}
use Rattle.server_session.specs.declared.stage.ControlPoint.TheVariants.{Inside}
use Rattle.server_session.specs.declared.stage.Stage.TheVariants.{Answering}
use Rattle.server_visits.proofs.Keeping.{image_seat_at, keeps_image, unsaid}
use Rattle.server_visits.proofs.image_visit.keep.Goals as goal

pub returns-clause-visits : goal.returns-clause-visits
returns-clause-visits g c = λ a. subst (λ (p : ControlPoint). VisitedAll g.H.Hash32.digest c.args.seat.now c.args.cells.now a (image_in (items_in c.args.cells.now) (Some c.args.bytes)) (image_seat_at c.args.seat.now p))
    (sym (c.put_point.ensures ∙ ap (λ (n : ℕ). Inside (Answering (unsaid n))) c.item_count.ensures))
    (keeps_image g.H.Hash32.digest c.args.seat.now c.args.cells.now c.args.bytes c.requires.bytes a)
