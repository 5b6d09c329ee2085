use Rattle.law_history.proofs.Legality.{one_legality}
use Rattle.law_history.proofs.laws.legality_is_one_for_all_meanings.Goals as goal

pub returns : goal.returns
returns c = one_legality
