use Rattle.test_samples.proofs.Worked as laws
use Rattle.test_samples.proofs.samples.refusals_have_an_order.Goals as goal

pub returns : goal.returns
returns c = record {
  twice_first = laws.twice_first;
  part_next = laws.part_next;
  hidden_not_listed = laws.hidden_not_listed;
  key_before_range = laws.key_before_range;
  range_before_key = laws.range_before_key;
  key_absent = laws.key_absent;
  key_set = laws.key_set;
  type_before_null = laws.type_before_null;
  null_key = laws.null_key;
  view_taken = laws.view_taken;
  name_fits = laws.name_fits;
  name_too_long = laws.name_too_long;
  tables_32 = laws.tables_32;
  tables_33 = laws.tables_33;
  key_before_class = laws.key_before_class;
}
