use Rattle.law_history.proofs.SoFar.{so_far}
use Rattle.law_history.proofs.laws.histories_agree_so_far.Goals as goal

pub returns : goal.returns
returns c = λ q database history good. so_far q database history good
