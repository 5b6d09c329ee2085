use Rattle.law_order.proofs.InOrder.{in_one_order}
use Rattle.law_order.proofs.laws.histories_are_in_one_order.Goals as goal

pub returns : goal.returns
returns c = λ q database history input setup transcripts good whole. in_one_order q database history good input setup transcripts whole
