use Rattle.audit_any_receipt.proofs.Contradicted.{each_shows}
use Rattle.audit_any_receipt.proofs.laws.accepted_receipts_are_never_contradicted.Goals as goal

pub returns : goal.returns
returns c = each_shows
