use Rattle.law_row_receipt.proofs.Rows.{all_shown}
use Rattle.law_row_receipt.proofs.laws.accepted_table_receipts_have_all_events.Goals as goal

pub returns : goal.returns
returns c = λ h r i d sized fr x is chain blocks roots holds. all_shown h sized i is chain blocks roots r d fr x holds
