use Rattle.law_rules.proofs.WhileThere.{legal_there}
use Rattle.law_rules.proofs.laws.legal_journals_have_versions_while_the_table_is_there.Goals as goal

pub returns : goal.returns
returns c = λ reads items entries written legal same. legal_there reads written items legal entries same
