use Rattle.std.proofs.Common.{◌≡◌, Some, sym, subst, rules}
use Rattle.sql_types.specs.declared.table.TableDef.{TableDef}
use Rattle.server_session.specs.ControlPoints.{KeepsStatement}
use Rattle.server_session.specs.KeptCell.{rows_seen}
use Rattle.server_session.specs.Steps.{IsVisit}
use Rattle.server_session.specs.declared.stage.ControlPoint.{ControlPoint}
use Rattle.server_session.specs.declared.stage.ControlPoint.TheVariants.{Inside}
use Rattle.server_session.specs.declared.stage.Stage.TheVariants.{Found}
use Rattle.server_session.proofs.Alone.{then_seat}
use Rattle.server_visit_table.specs.InTable.{MayRun}
use Rattle.server_visit_table.specs.TableStages.{RunsInTableTo}
use Rattle.server_visit_table.proofs.RowsFound.{may_run, stays, visits}
use Rattle.server_visit_table.proofs.rows_found.run_in_table.Goals as goal

pub run_found-stage-requires-after_bounds : goal.run_found-stage-requires-after_bounds
run_found-stage-requires-after_bounds g c κs within = let found = c.in-Inside-Found in let at : c.args.seat.now.point ≡ Inside (Found found.def found.part found.fresh) = search rules in
    subst (λ (d : TableDef). MayRun g.H.Hash32.digest c.in-Some-running.running.context c.args.rows.now (d, found.part) c.in-Some.stmt) (sym c.get.ensures)
    (may_run g.H.Hash32.digest c.args.seat.now c.in-Some-running.running c.args.rows.now c.in-Some-running.is found.def found.part found.fresh at c.requires.among c.in-Some.stmt c.in-Some.is)

pub returns-clause-visits : goal.returns-clause-visits
returns-clause-visits g c = λ a. let found = c.in-Inside-Found in let y = c.args.seat.now in let at : y.point ≡ Inside (Found found.def found.part found.fresh) = search rules in
    subst (λ (p : ControlPoint). IsVisit g.H.Hash32.digest y (rows_seen c.args.rows.now) a (rows_seen c.run_found-stage.new.rows) (then_seat y y.started y.text y.stmt (Some c.run_found-stage.new.running) p))
    (sym c.put_point.ensures)
    (visits g.H.Hash32.digest y c.in-Some-running.running c.args.rows.now c.in-Some-running.is found.def found.part found.fresh at a c.in-Some.stmt c.in-Some.is
    c.run_found-stage.new.rows c.run_found-stage.new.running c.run_found-stage.result
    (subst (λ (d : TableDef). RunsInTableTo g.H.Hash32.digest c.args.rows.now c.in-Some-running.running (d, found.part) found.fresh c.in-Some.stmt c.run_found-stage.new.rows c.run_found-stage.new.running c.run_found-stage.result) c.get.ensures c.run_found-stage.ensures))

pub returns-clause-stays : goal.returns-clause-stays
returns-clause-stays g c = let found = c.in-Inside-Found in let y = c.args.seat.now in let at : y.point ≡ Inside (Found found.def found.part found.fresh) = search rules in
    subst (λ (p : ControlPoint). KeepsStatement y (then_seat y y.started y.text y.stmt (Some c.run_found-stage.new.running) p)) (sym c.put_point.ensures)
    (stays g.H.Hash32.digest y c.in-Some-running.running c.args.rows.now c.in-Some-running.is found.def found.part found.fresh at c.requires.among c.in-Some.stmt c.in-Some.is
    c.run_found-stage.new.rows c.run_found-stage.new.running c.run_found-stage.result
    (subst (λ (d : TableDef). RunsInTableTo g.H.Hash32.digest c.args.rows.now c.in-Some-running.running (d, found.part) found.fresh c.in-Some.stmt c.run_found-stage.new.rows c.run_found-stage.new.running c.run_found-stage.result) c.get.ensures c.run_found-stage.ensures))
