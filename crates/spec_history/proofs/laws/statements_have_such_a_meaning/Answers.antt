use Rattle.spec_history.proofs.Real.{real, is_real}
use Rattle.spec_history.proofs.laws.statements_have_such_a_meaning.Goals as goal

pub returns : goal.returns
returns c = λ reads h. (real reads h, is_real reads h)
