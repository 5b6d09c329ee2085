use Rattle.spec_verify.proofs.AllHold.{yes_exactly}
use Rattle.spec_verify.proofs.laws.yes_is_said_of_what_holds.Goals as goal

pub returns : goal.returns
returns c = yes_exactly
