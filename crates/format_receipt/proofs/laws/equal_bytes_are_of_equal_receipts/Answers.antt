use Rattle.format_receipt.proofs.ReceiptExact.{equal_receipts}
use Rattle.format_receipt.proofs.laws.equal_bytes_are_of_equal_receipts.Goals as goal

pub returns : goal.returns
returns c = equal_receipts
