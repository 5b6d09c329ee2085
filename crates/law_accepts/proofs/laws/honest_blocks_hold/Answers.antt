use Rattle.law_accepts.proofs.Sizes.{blocks_hold}
use Rattle.law_accepts.proofs.laws.honest_blocks_hold.Goals as goal

pub returns : goal.returns
returns c = blocks_hold
