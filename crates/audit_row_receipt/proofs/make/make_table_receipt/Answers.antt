use Rattle.std.proofs.Common.{rules}
use Rattle.audit_row_receipt.proofs.RowsSpelled.{table_made}
use Rattle.audit_row_receipt.proofs.make.make_table_receipt.Goals as goal

pub returns-clause-made : goal.returns-clause-made
returns-clause-made g c =
    table_made (g.H.Hash32.digest c.args.h) c.args.image.now c.args.tx c.args.table c.args.block c.in_ok-receipt.receipt c.from_vec-leaves.result
    c.requires.image (search rules) (search rules) (search rules) (search rules)
