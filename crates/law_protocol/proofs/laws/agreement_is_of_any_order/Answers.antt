use Rattle.law_protocol.proofs.InSessionOrder.{in_order_of}
use Rattle.law_protocol_ledger.proofs.Reorders.{reordered_agrees}
use Rattle.law_protocol.proofs.laws.agreement_is_of_any_order.Goals as goal

pub returns : goal.returns
returns c = record {
  any = λ q database input setup X J G agree then_input then_X to r. reordered_agrees q database input setup X J G agree then_input then_X to r;
  session_order = λ input X names long session_order. in_order_of input X names long session_order;
}
