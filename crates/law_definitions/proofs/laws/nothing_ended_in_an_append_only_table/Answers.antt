use Rattle.spec_verify.proofs.AllHold.{yes_exactly}
use Rattle.spec_verify.proofs.AllTold.{yes_together}
use Rattle.law_definitions.proofs.AppendOnly.{nothing_ended}
use Rattle.law_definitions.proofs.laws.nothing_ended_in_an_append_only_table.Goals as goal

pub returns : goal.returns
returns c = λ h i digests rise yes. nothing_ended h i digests rise ((yes_exactly h i digests).0 yes) ((yes_together h i digests).0 yes)
