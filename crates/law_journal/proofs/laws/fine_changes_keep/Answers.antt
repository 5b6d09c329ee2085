use Rattle.law_journal.proofs.Tables.{kept_changed}
use Rattle.law_journal.proofs.laws.fine_changes_keep.Goals as goal

pub returns : goal.returns
returns c = λ place T tx seq change k fine. kept_changed place tx seq change T k fine
