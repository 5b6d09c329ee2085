use Rattle.law_history.proofs.IdsAssigned.{all_named}
use Rattle.law_history.proofs.laws.the_journal_has_the_names_of_its_sessions.Goals as goal

pub returns : goal.returns
returns c = λ q database history good. all_named q database history good
