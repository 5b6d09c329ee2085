use Rattle.law_row_receipt.proofs.RowsAccepted.{table_made}
use Rattle.law_row_receipt.proofs.laws.made_table_receipts_are_accepted.Goals as goal

pub returns : goal.returns
returns c = λ h i d k p e t is chain blocks roots holds at le table_at some. table_made h i is chain blocks roots d k p e t holds at le table_at some
