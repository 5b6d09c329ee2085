use Rattle.std.proofs.Common.{◌∙◌, Result, subst, sym}
use Rattle.sql_value.specs.declared.refusal.Refusal.{Refusal}
use Rattle.sql_types.specs.declared.reply.Reply.{Reply}
use Rattle.sql_types.specs.declared.statement.Stmt.TheVariants as stmt
use Rattle.sql_types.specs.declared.table.TableDef.{TableDef}
use Rattle.server_visit_table.specs.InTable.{HasRun}
use Rattle.server_visit_table.proofs.RowsRan.{has_read, stopped_for_memory}
use Rattle.server_visit_table.proofs.rows_found.read.Goals as goal

pub returns-in_err-places : goal.returns-in_err-places
returns-in_err-places g c = stopped_for_memory g.H.Hash32.digest c.args.rows.now c.args.context.now (c.args.def.now, c.args.part) (stmt.Select c.args.q.now) c.from_residual.result c.from_residual.ensures.1

pub returns-in_err-requests : goal.returns-in_err-requests
returns-in_err-requests g c = stopped_for_memory g.H.Hash32.digest c.args.rows.now c.args.context.now (c.args.def.now, c.args.part) (stmt.Select c.args.q.now) c.from_residual-in_err-requests.result c.from_residual-in_err-requests.ensures.1

pub returns : goal.returns
returns g c =
    let table = c.new-table.result in
    subst (λ (d : TableDef). HasRun g.H.Hash32.digest c.args.rows.now c.args.context.now (d, c.args.part) (stmt.Select c.args.q.now) c.reply_read.result c.read.new.self c.args.context.now) c.new-table.ensures
    (subst (λ (r : Result Reply Refusal). HasRun g.H.Hash32.digest c.args.rows.now c.args.context.now (table, c.args.part) (stmt.Select c.args.q.now) r c.read.new.self c.args.context.now) (sym c.reply_read.ensures)
    (has_read g.H.Hash32.digest c.args.rows.now c.read.new.self c.args.context.now (table, c.args.part) c.id.result c.id.ensures c.args.q.now c.deref-2.result.now
    (c.deref-2.ensures.value ∙ c.in_ok-requests.ensures)
    c.read.result c.read.ensures.ok c.read.ensures.stopped))
