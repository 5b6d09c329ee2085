use Rattle.std.proofs.Common.{◌≡◌, ◌∙◌, ℕ, sym, ap, subst, rules}
use Rattle.server_session.specs.ControlPoints.{KeepsStatement}
use Rattle.server_session.specs.KeptCell.{rows_seen}
use Rattle.server_session.specs.Steps.{ComesOn, IsVisit}
use Rattle.server_session.specs.UndoVisits.{undone_to}
use Rattle.server_session.specs.declared.stage.ControlPoint.{ControlPoint}
use Rattle.server_session.specs.declared.stage.ControlPoint.TheVariants.{Inside}
use Rattle.server_session.specs.declared.stage.Stage.TheVariants.{GoingBack}
use Rattle.server_session.proofs.Alone.{then_point}
use Rattle.server_visit_table.proofs.RowsBack.{comes_on, goes_back, stays}
use Rattle.server_visit_table.proofs.rows_back.go_back.Goals as goal

pub returns-clause-visits : goal.returns-clause-visits
returns-clause-visits g c = λ a. let back = c.in-Inside-GoingBack in let y = c.args.seat.now in let at : y.point ≡ Inside (GoingBack back.seq back.passed) = search rules in
    subst (λ (p : ControlPoint). IsVisit g.H.Hash32.digest y (rows_seen c.args.rows.now) a (rows_seen c.undo_to.new.self) (then_point y p)) (sym c.put_point.ensures)
    (goes_back g.H.Hash32.digest y c.in-Some.running c.args.rows.now c.undo_to.new.self c.in-Some.is back.seq back.passed at a
    (λ h o w. c.undo_to.ensures ∙ ap (λ (n : ℕ). undone_to n back.seq c.args.rows.now) (c.id.ensures h o w)) c.stage_behind-stage.result c.stage_behind-stage.ensures)

pub returns-clause-comes_on : goal.returns-clause-comes_on
returns-clause-comes_on g c = let back = c.in-Inside-GoingBack in let y = c.args.seat.now in let at : y.point ≡ Inside (GoingBack back.seq back.passed) = search rules in
    subst (λ (p : ControlPoint). ComesOn y (rows_seen c.args.rows.now) (rows_seen c.undo_to.new.self) (then_point y p)) (sym c.put_point.ensures)
    (comes_on g.H.Hash32.digest y c.in-Some.running c.args.rows.now c.undo_to.new.self c.in-Some.is back.seq back.passed at c.requires.among
    c.stage_behind-stage.result c.stage_behind-stage.ensures)

pub returns-clause-stays : goal.returns-clause-stays
returns-clause-stays g c = let back = c.in-Inside-GoingBack in let y = c.args.seat.now in let at : y.point ≡ Inside (GoingBack back.seq back.passed) = search rules in
    subst (λ (p : ControlPoint). KeepsStatement y (then_point y p)) (sym c.put_point.ensures)
    (stays g.H.Hash32.digest y c.in-Some.running c.args.rows.now c.undo_to.new.self c.in-Some.is back.seq back.passed at c.requires.among c.stage_behind-stage.result c.stage_behind-stage.ensures)
