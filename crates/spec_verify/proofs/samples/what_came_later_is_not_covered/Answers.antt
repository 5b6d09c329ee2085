use Rattle.spec_verify.proofs.Worked as worked
use Rattle.spec_verify.proofs.samples.what_came_later_is_not_covered.Goals as goal

pub returns : goal.returns
returns c = record {
  all = worked.covered.0;
  events = worked.covered.1;
  older = worked.covered.2;
  later = worked.covered.3;
  changed = worked.changed;
}
