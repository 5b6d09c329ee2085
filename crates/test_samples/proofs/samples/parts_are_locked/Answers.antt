use Rattle.std.proofs.Common.{refl}
use Rattle.test_samples.proofs.Wanted as laws
use Rattle.test_samples.proofs.samples.parts_are_locked.Goals as goal

pub returns : goal.returns
returns c = record {
  update_key = laws.update_key;
  update_all = laws.update_all;
  delete_key = laws.delete_key;
  create = (laws.create_nowhere, refl, refl);
  history = laws.history_whole;
  view = laws.view_whole;
  system = (laws.system_none, refl);
}
