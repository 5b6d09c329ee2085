use Rattle.std.proofs.Common.{rules}
use Rattle.sql_check.proofs.NewTables.{refused_gives}
use Rattle.sql_check.proofs.creating.new_table.Goals as goal

pub returns-in_err-check_new : goal.returns-in_err-check_new
returns-in_err-check_new g c =
    refused_gives (g.D.Definitions.defs c.args.defs.now) c.args.c.now c.count.result c.in_ok-history.history c.in_ok-view.view
    (search rules) (search rules) (search rules) c.in_err-check_new.field-0.0 c.from_residual-in_err-check_new.result c.from_residual-in_err-check_new.ensures.1 c.in_err-check_new.ensures
