use Rattle.law_row_receipt.proofs.RowsAccepted.{row_made}
use Rattle.law_row_receipt.proofs.laws.made_row_receipts_are_accepted.Goals as goal

pub returns : goal.returns
returns c = λ h i d k p n e t event is chain blocks roots holds at le table_at event_at. row_made h i is chain blocks roots d k p n e t event holds at le table_at event_at
