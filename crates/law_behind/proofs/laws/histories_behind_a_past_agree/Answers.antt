use Rattle.law_behind.proofs.Agreed.{agrees}
use Rattle.law_behind.proofs.laws.histories_behind_a_past_agree.Goals as goal

pub returns : goal.returns
returns c = λ q database past is history input setup transcripts good whole. agrees q database past is history good input setup transcripts whole
