use Rattle.law_journal.proofs.Statements.{change_set_fine}
use Rattle.law_journal.proofs.laws.changes_are_fine.Goals as goal

pub returns : goal.returns
returns c = λ place T tx seq stmt k d. change_set_fine place tx seq T stmt k d
