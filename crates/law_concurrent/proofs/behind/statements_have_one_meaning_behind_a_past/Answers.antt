use Rattle.law_concurrent.proofs.Agrees.{then_agrees_behind}
use Rattle.law_concurrent.proofs.Real.{same}
use Rattle.law_concurrent.proofs.behind.statements_have_one_meaning_behind_a_past.Goals as goal

pub returns : goal.returns
returns c = λ h reads q r m n database past input setup X J G agree. then_agrees_behind q r (same h reads q r m n) database past input setup X J G agree
