use Rattle.format_row_receipt.proofs.RowExact.{equal_tables, equal_rows}
use Rattle.format_row_receipt.proofs.laws.equal_bytes_are_of_equal_row_receipts.Goals as goal

pub returns : goal.returns
returns c = record { table = equal_tables; row = equal_rows }
