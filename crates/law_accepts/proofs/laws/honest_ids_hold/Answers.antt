use Rattle.law_accepts.proofs.Ids.{ids_hold}
use Rattle.law_accepts.proofs.laws.honest_ids_hold.Goals as goal

pub returns : goal.returns
returns c = ids_hold
