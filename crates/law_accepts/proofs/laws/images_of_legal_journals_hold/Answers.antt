use Rattle.law_accepts.proofs.Whole.{all_hold}
use Rattle.law_accepts.proofs.laws.images_of_legal_journals_hold.Goals as goal

pub returns : goal.returns
returns c = all_hold
