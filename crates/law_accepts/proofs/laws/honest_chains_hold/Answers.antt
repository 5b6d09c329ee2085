use Rattle.law_accepts.proofs.Blocks.{chain_holds}
use Rattle.law_accepts.proofs.laws.honest_chains_hold.Goals as goal

pub returns : goal.returns
returns c = chain_holds
