use Rattle.law_history.proofs.SoFar.{so_far}
use Rattle.law_protocol.proofs.laws.transcripts_agree_so_far.Goals as goal

pub returns : goal.returns
returns c = λ v history cells seats s. so_far v.meaning s.ledger.database history s.transcripts_agree.good
