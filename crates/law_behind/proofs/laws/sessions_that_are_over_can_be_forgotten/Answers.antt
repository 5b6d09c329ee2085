use Rattle.law_behind.proofs.Forgotten.{forgotten}
use Rattle.law_behind.proofs.laws.sessions_that_are_over_can_be_forgotten.Goals as goal

pub returns : goal.returns
returns c = λ q database count history w v is good. forgotten q database count history w v is good
