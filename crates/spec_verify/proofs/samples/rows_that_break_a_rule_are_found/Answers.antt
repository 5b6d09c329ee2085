use Rattle.spec_verify.proofs.Worked as worked
use Rattle.spec_verify.proofs.samples.rows_that_break_a_rule_are_found.Goals as goal

pub returns : goal.returns
returns c = record {
  another_type = worked.rules.0;
  too_few = worked.rules.1;
  null_key = worked.rules.2;
  append_only = worked.rules.3;
  left_out = worked.rules.4;
  unsorted = worked.rules.5;
  sorted = worked.rules.6;
}
