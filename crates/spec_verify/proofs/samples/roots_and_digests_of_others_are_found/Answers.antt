use Rattle.spec_verify.proofs.Worked as worked
use Rattle.spec_verify.proofs.samples.roots_and_digests_of_others_are_found.Goals as goal

pub returns : goal.returns
returns c = record {
  database = worked.others.0;
  root_more = worked.others.1;
  no_root = worked.others.2;
}
