use Rattle.law_accepts.proofs.Versions.{versions_hold}
use Rattle.law_accepts.proofs.laws.honest_versions_hold.Goals as goal

pub returns : goal.returns
returns c = versions_hold
