use Rattle.law_rules.proofs.Tables.{legal_right}
use Rattle.law_rules.proofs.laws.legal_journals_have_right_rows_of_tables.Goals as goal

pub returns : goal.returns
returns c = λ reads items written legal def among. legal_right reads written items legal def among
