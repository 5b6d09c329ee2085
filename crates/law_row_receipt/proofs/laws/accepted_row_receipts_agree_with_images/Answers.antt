use Rattle.law_row_receipt.proofs.Rows.{one_shown}
use Rattle.law_row_receipt.proofs.laws.accepted_row_receipts_agree_with_images.Goals as goal

pub returns : goal.returns
returns c = λ h r i d sized fr x is chain blocks roots holds. one_shown h sized i is chain blocks roots r d fr x holds
