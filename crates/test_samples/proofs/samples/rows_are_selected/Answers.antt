use Rattle.test_samples.proofs.Worked as laws
use Rattle.test_samples.proofs.samples.rows_are_selected.Goals as goal

pub returns : goal.returns
returns c = record {
  ascending = laws.ascending;
  descending = laws.descending;
  sums = laws.sums;
  sums_of_none = laws.sums_of_none;
  hidden_named = laws.hidden_named;
  no_hidden_end = laws.no_hidden_end;
  history_order = laws.history_order;
  key_hides = laws.key_hides;
  all_are_evaluated = laws.all_are_evaluated;
  sum_on_the_way = laws.sum_on_the_way;
  key_order = laws.key_order;
}
