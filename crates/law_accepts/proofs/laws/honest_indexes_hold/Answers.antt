use Rattle.law_accepts.proofs.Indexes.{indexes_hold}
use Rattle.law_accepts.proofs.laws.honest_indexes_hold.Goals as goal

pub returns : goal.returns
returns c = indexes_hold
