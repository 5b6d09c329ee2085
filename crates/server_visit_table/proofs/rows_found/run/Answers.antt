use Rattle.server_visit_table.proofs.RowsRan.{stopped_for_memory}
use Rattle.server_visit_table.proofs.rows_found.run.Goals as goal

pub returns-in_err-reserve-clause-run : goal.returns-in_err-reserve-clause-run
returns-in_err-reserve-clause-run g c = stopped_for_memory g.H.Hash32.digest c.args.rows.now c.args.running.now.context (c.args.def.now, c.args.part) c.args.stmt.now c.from_residual.result c.from_residual.ensures.1
