use Rattle.law_history.proofs.Agreed.{agrees}
use Rattle.law_history.proofs.laws.histories_agree.Goals as goal

pub returns : goal.returns
returns c = λ q database history input setup transcripts good whole. agrees q database history good input setup transcripts whole
