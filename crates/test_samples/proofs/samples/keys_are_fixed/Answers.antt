use Rattle.test_samples.proofs.Wanted as wanted
use Rattle.test_samples.proofs.Worked as laws
use Rattle.test_samples.proofs.samples.keys_are_fixed.Goals as goal

pub returns : goal.returns
returns c = record {
  int_fixed = laws.int_fixed;
  int_not_fixed = laws.int_not_fixed;
  decimal_fixed = laws.decimal_fixed;
  decimal_not_fixed = laws.decimal_not_fixed;
  bit_not_fixed = laws.bit_not_fixed;
  null_not_fixed = laws.null_not_fixed;
  negative = wanted.negative_fixed;
  date = wanted.date_fixed;
  nested = wanted.nested_fixed;
  either = wanted.or_not_fixed;
}
