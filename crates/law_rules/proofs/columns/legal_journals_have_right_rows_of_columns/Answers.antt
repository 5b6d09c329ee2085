use Rattle.law_rules.proofs.LegalColumns.{columns_legal}
use Rattle.law_rules.proofs.columns.legal_journals_have_right_rows_of_columns.Goals as goal

pub returns : goal.returns
returns c = λ reads items written legal def among. columns_legal reads items written legal def among
