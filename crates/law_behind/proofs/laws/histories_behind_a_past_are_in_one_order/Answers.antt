use Rattle.law_behind.proofs.InOrder.{in_one_order}
use Rattle.law_behind.proofs.laws.histories_behind_a_past_are_in_one_order.Goals as goal

pub returns : goal.returns
returns c = λ q database past is history input setup transcripts good whole. in_one_order q database past is history good input setup transcripts whole
