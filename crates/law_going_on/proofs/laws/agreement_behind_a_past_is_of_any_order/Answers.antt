use Rattle.law_going_on.proofs.Reorders.{reordered_agrees}
use Rattle.law_going_on.proofs.laws.agreement_behind_a_past_is_of_any_order.Goals as goal

pub returns : goal.returns
returns c = λ q database past input setup X J G agree then_input then_X to reordered. reordered_agrees q database past input setup X J G agree then_input then_X to reordered
