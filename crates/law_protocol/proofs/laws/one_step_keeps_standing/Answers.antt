use Rattle.law_protocol.proofs.AlonesKeep.{one_next}
use Rattle.law_protocol.proofs.StepsKeep.{visit_next}
use Rattle.law_protocol.proofs.laws.one_step_keeps_standing.Goals as goal

pub returns : goal.returns
returns c = record {
  visits = λ v history cells seats st asked wanted. visit_next v cells seats st asked wanted;
  alone = λ v history cells seats st asked wanted. one_next v cells seats st asked wanted;
}
