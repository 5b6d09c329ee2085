use Rattle.audit_row_receipt.proofs.Told.{number_decided}
use Rattle.audit_row_receipt.proofs.numbers.has_number.Goals as goal

pub returns : goal.returns
returns c = number_decided c.args.leaf.now c.in_ok-found.found c.args.seq _ c.in_ok-found.ensures c.is_number.ensures
