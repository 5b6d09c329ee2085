use Rattle.std.proofs.Common.{◌∙◌, Result, subst, sym}
use Rattle.sql_value.specs.declared.refusal.Refusal.{Refusal}
use Rattle.sql_types.specs.declared.reply.Reply.{Reply}
use Rattle.sql_types.specs.declared.statement.Stmt.TheVariants as stmt
use Rattle.sql_types.specs.declared.table.TableDef.{TableDef}
use Rattle.server_visit_table.specs.InTable.{HasRun}
use Rattle.server_visit_table.proofs.RowsRan.{has_changed, stopped_for_memory}
use Rattle.server_visit_table.proofs.rows_found.change.Goals as goal

pub returns-in_err-places : goal.returns-in_err-places
returns-in_err-places g c = λ part. stopped_for_memory g.H.Hash32.digest c.args.rows.now c.args.context.now (c.args.def.now, part) (stmt.Change c.args.row.now) c.from_residual.result c.from_residual.ensures.1

pub returns-in_err-requests : goal.returns-in_err-requests
returns-in_err-requests g c = λ part. stopped_for_memory g.H.Hash32.digest c.args.rows.now c.args.context.now (c.args.def.now, part) (stmt.Change c.args.row.now) c.from_residual-in_err-requests.result c.from_residual-in_err-requests.ensures.1

pub returns : goal.returns
returns g c = λ part.
    let table = c.new-table.result in
    subst (λ (d : TableDef). HasRun g.H.Hash32.digest c.args.rows.now c.args.context.now (d, part) (stmt.Change c.args.row.now) c.reply_changed.result c.change.new.self c.change.new.ctx) c.new-table.ensures
    (subst (λ (r : Result Reply Refusal). HasRun g.H.Hash32.digest c.args.rows.now c.args.context.now (table, part) (stmt.Change c.args.row.now) r c.change.new.self c.change.new.ctx) (sym c.reply_changed.ensures)
    (has_changed g.H.Hash32.digest c.args.rows.now c.change.new.self c.args.context.now c.change.new.ctx table part c.args.row.now c.deref-2.result.now
    (c.deref-2.ensures.value ∙ c.in_ok-requests.ensures)
    c.change.result c.change.ensures.ok c.change.ensures.stopped c.change.ensures.context))
