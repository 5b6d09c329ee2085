use Rattle.law_protocol_steps.proofs.ByLocksMore.{decides_on}
use Rattle.law_protocol.proofs.StepOrderKept.{keeps_order}
use Rattle.law_protocol.proofs.laws.locks_that_decide_keep_step_order.Goals as goal

pub returns : goal.returns
returns c = record {
  parts = λ v history events more. decides_on v history events more;
  keeps = λ v history cells seats st. keeps_order v history cells seats st;
}
