use Rattle.law_rules.proofs.LegalIndexes.{indexes_in_time}
use Rattle.law_rules.proofs.indexes.indexes_are_made_in_time_in_legal_journals.Goals as goal

pub returns : goal.returns
returns c = λ reads items written legal def among. indexes_in_time reads items written legal def among
