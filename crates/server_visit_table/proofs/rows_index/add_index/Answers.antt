use Rattle.std.proofs.Common.{◌∙◌, Some, ap, subst, sym}
use Rattle.std.specs.Result.{is_ok}
use Rattle.sql_types.specs.declared.table.TableDef.{TableDef}
use Rattle.store_table.specs.Calls.{IsTable, LacksLast}
use Rattle.server_session.specs.KeptCell.{rows_seen}
use Rattle.server_session.specs.ControlPoints.{KeepsStatement}
use Rattle.server_session.specs.Steps.{IsVisit}
use Rattle.server_visit_table.specs.TableStages.{IndexMade, made_stage}
use Rattle.server_session.specs.declared.stage.ControlPoint.{ControlPoint}
use Rattle.server_session.specs.declared.stage.ControlPoint.TheVariants.{Inside}
use Rattle.server_session.proofs.Alone.{then_seat}
use Rattle.server_visit_table.proofs.RowsIndex.{its_indexes, its_table, stays, visits}
use Rattle.server_visit_table.proofs.rows_index.add_index.Goals as goal

pub add_last_index-requires-clause-table : goal.add_last_index-requires-clause-table
add_last_index-requires-clause-table g c κs within = let made = c.in-Inside-Made in
    subst (λ (d : TableDef). IsTable c.args.rows.now d) (sym c.get.ensures)
    (its_table g.H.Hash32.digest c.args.seat.now c.in-Some.running c.args.rows.now c.in-Some.is made.def made.field-0-1 (sym c.replace.ensures.value ∙ made.is ∙ ap Inside made.field-0-is) c.requires.among)

pub add_last_index-requires-clause-indexes : goal.add_last_index-requires-clause-indexes
add_last_index-requires-clause-indexes g c κs within = let made = c.in-Inside-Made in
    subst (λ (d : TableDef). LacksLast c.args.rows.now d) (sym c.get.ensures)
    (its_indexes g.H.Hash32.digest c.args.seat.now c.in-Some.running c.args.rows.now c.in-Some.is made.def made.field-0-1 (sym c.replace.ensures.value ∙ made.is ∙ ap Inside made.field-0-is) c.requires.among)

pub returns-clause-visits : goal.returns-clause-visits
returns-clause-visits g c = λ a. let made = c.in-Inside-Made in let y = c.args.seat.now in
    subst (λ (p : ControlPoint). IsVisit g.H.Hash32.digest y (rows_seen c.args.rows.now) a (rows_seen c.add_last_index.new.rows) (then_seat y y.started y.text y.stmt (Some c.add_last_index.new.running) p))
    (sym (c.put_point.ensures ∙ ap Inside (c.stage_made.ensures ∙ ap (made_stage made.def) c.is_ok-added.ensures.value)))
    (visits g.H.Hash32.digest y c.in-Some.running c.args.rows.now c.in-Some.is made.def made.field-0-1 (sym c.replace.ensures.value ∙ made.is ∙ ap Inside made.field-0-is) a
    c.add_last_index.new.running c.add_last_index.new.rows c.add_last_index.ensures.context c.add_last_index.ensures.rest (is_ok c.add_last_index.result)
    (subst (λ (d : TableDef). IndexMade c.args.rows.now c.in-Some.running d c.add_last_index.new.rows c.add_last_index.new.running (is_ok c.add_last_index.result)) c.get.ensures c.add_last_index.ensures.made))

pub returns-clause-stays : goal.returns-clause-stays
returns-clause-stays g c = let made = c.in-Inside-Made in let y = c.args.seat.now in
    subst (λ (p : ControlPoint). KeepsStatement y (then_seat y y.started y.text y.stmt (Some c.add_last_index.new.running) p))
    (sym (c.put_point.ensures ∙ ap Inside (c.stage_made.ensures ∙ ap (made_stage made.def) c.is_ok-added.ensures.value)))
    (stays g.H.Hash32.digest y c.in-Some.running c.args.rows.now c.in-Some.is made.def made.field-0-1 (sym c.replace.ensures.value ∙ made.is ∙ ap Inside made.field-0-is) c.requires.among
    c.add_last_index.new.running c.add_last_index.new.rows c.add_last_index.ensures.context c.add_last_index.ensures.rest (is_ok c.add_last_index.result))
