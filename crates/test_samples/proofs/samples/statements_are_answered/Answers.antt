use Rattle.test_samples.proofs.Worked as laws
use Rattle.test_samples.proofs.samples.statements_are_answered.Goals as goal

pub returns : goal.returns
returns c = record {
  system_columns = laws.system_columns;
  ends_of_bigint = laws.ends_of_bigint;
  units_of_text = laws.units_of_text;
  append_only = laws.append_only;
  index_rows_made = laws.index_rows_made;
  no_leap_day = laws.no_leap_day;
}
