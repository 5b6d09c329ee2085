use Rattle.law_row_receipt.proofs.RowsGiven.{table_given, row_given}
use Rattle.law_row_receipt.proofs.laws.receipts_made_of_rows_are_accepted.Goals as goal

pub returns-clause-table : goal.returns-clause-table
returns-clause-table c = λ h i d tx table r is chain blocks roots holds made. table_given h i is chain blocks roots d tx table r holds made

pub returns-clause-row : goal.returns-clause-row
returns-clause-row c = λ h i d tx table seq r is chain blocks roots holds made. row_given h i is chain blocks roots d tx table seq r holds made
