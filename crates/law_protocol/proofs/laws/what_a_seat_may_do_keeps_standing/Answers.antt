use Rattle.law_protocol.proofs.StepsKeep.{may_keeps}
use Rattle.law_protocol.proofs.laws.what_a_seat_may_do_keeps_standing.Goals as goal

pub returns : goal.returns
returns c = λ v history cells seats st asked wanted. may_keeps v cells seats st asked wanted
