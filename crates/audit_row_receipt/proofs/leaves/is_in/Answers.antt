use Rattle.audit_row_receipt.proofs.Told.{in_decided}
use Rattle.audit_row_receipt.proofs.leaves.is_in.Goals as goal

pub returns : goal.returns
returns c = in_decided c.args.tx c.args.leaf.now c.in_ok-found.found c.args.table _ c.in_ok-found.ensures c.is_table.ensures
