use Rattle.spec_verify.specs.Verdict.{AllHold}
use Rattle.spec_verify.proofs.AllHold.{yes_exactly}
use Rattle.law_definitions.proofs.KeysAndTypes.{keys_and_types_at, keys_and_types_stay}
use Rattle.law_definitions.proofs.laws.keys_and_types_never_change.Goals as goal

pub returns : goal.returns
returns c = λ h i digests rise yes. (let hold : AllHold h i digests = (yes_exactly h i digests).0 yes in (
  keys_and_types_stay h i digests rise hold,
  keys_and_types_at h i digests rise hold,
))
