use Rattle.law_accepts.proofs.Definitions.{definitions_hold}
use Rattle.law_accepts.proofs.laws.honest_definitions_hold.Goals as goal

pub returns : goal.returns
returns c = definitions_hold
