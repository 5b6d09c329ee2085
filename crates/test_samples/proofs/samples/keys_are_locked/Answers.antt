use Rattle.test_samples.proofs.Worked as laws
use Rattle.test_samples.proofs.samples.keys_are_locked.Goals as goal

pub returns : goal.returns
returns c = record {
  insert_far_requests = laws.insert_far_requests;
  read_and_inserted = laws.read_and_inserted;
  key_locked = laws.key_locked;
}
