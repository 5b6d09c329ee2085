use Rattle.audit_any_receipt.proofs.AnyKinds.{equal_any}
use Rattle.audit_any_receipt.proofs.laws.equal_bytes_are_of_equal_receipts_of_any_kind.Goals as goal

pub returns : goal.returns
returns c = equal_any
