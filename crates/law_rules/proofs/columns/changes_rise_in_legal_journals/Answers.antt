use Rattle.law_rules.proofs.LegalColumns.{changes_legal}
use Rattle.law_rules.proofs.columns.changes_rise_in_legal_journals.Goals as goal

pub returns : goal.returns
returns c = λ reads items written legal def among. changes_legal reads items written legal def among
