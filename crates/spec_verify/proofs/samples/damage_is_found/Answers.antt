use Rattle.spec_verify.proofs.Worked as worked
use Rattle.spec_verify.proofs.samples.damage_is_found.Goals as goal

pub returns : goal.returns
returns c = record {
  value = worked.damage.0;
  index = worked.damage.1;
  key = worked.damage.2;
  order = worked.damage.3;
  definition = worked.damage.4;
  id = worked.damage.5;
  event = worked.damage.6;
  numbers = worked.damage.7;
  chain = worked.damage.8;
  size = worked.damage.9;
  older = worked.damage.10;
  digest = worked.damage.11;
}
