use Rattle.law_protocol.proofs.StepsKeep.{may_owns}
use Rattle.law_protocol.proofs.laws.what_a_seat_does_its_sessions_do.Goals as goal

pub returns : goal.returns
returns c = λ v history cells seats st asked wanted j s there out outs i c t may differ. may_owns v cells seats st asked wanted j s there out outs i c t may differ
