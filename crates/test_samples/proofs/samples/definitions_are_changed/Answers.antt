use Rattle.test_samples.proofs.Worked as laws
use Rattle.test_samples.proofs.samples.definitions_are_changed.Goals as goal

pub returns : goal.returns
returns c = record {
  worked_row = laws.worked_row;
  rows_of_changes = laws.rows_of_changes;
  order_of_refusals = laws.order_of_refusals;
  dropped_columns_are_read = laws.dropped_columns_are_read;
}
