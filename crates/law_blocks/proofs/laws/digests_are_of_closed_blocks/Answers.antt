use Rattle.law_blocks.proofs.Digests.{digest_is}
use Rattle.law_blocks.proofs.laws.digests_are_of_closed_blocks.Goals as goal

pub returns : goal.returns
returns c = λ h reads q database J b made hashes legal lt. digest_is reads h q database J b made hashes legal lt
