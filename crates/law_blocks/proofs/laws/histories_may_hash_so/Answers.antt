use Rattle.std.proofs.Common.{refl}
use Rattle.law_blocks.proofs.Staying.{hashing}
use Rattle.law_blocks.proofs.laws.histories_may_hash_so.Goals as goal

pub returns : goal.returns
unfolding hashing
returns c = λ h reads. (hashing h reads, λ J b. refl)
