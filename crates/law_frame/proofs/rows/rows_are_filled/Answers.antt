use Rattle.law_frame.proofs.Filled.{row_whole, row_one_more, filled_values}
use Rattle.law_frame.proofs.rows.rows_are_filled.Goals as goal

pub returns : goal.returns
returns c = record { whole = row_whole; one_more = row_one_more; stored = filled_values }
