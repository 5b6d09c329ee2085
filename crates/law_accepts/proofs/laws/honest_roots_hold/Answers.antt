use Rattle.law_accepts.proofs.Roots.{roots_hold}
use Rattle.law_accepts.proofs.laws.honest_roots_hold.Goals as goal

pub returns : goal.returns
returns c = roots_hold
