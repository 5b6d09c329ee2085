use Rattle.law_accepts.proofs.Blocks.{digests_hold}
use Rattle.law_accepts.proofs.laws.honest_digests_hold.Goals as goal

pub returns : goal.returns
returns c = digests_hold
