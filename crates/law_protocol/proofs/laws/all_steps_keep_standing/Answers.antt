use Rattle.law_protocol.proofs.StepsKeep.{all_keep}
use Rattle.law_protocol.proofs.laws.all_steps_keep_standing.Goals as goal

pub returns : goal.returns
returns g = λ v history cells seats st asked wanted. all_keep v cells seats st asked wanted
