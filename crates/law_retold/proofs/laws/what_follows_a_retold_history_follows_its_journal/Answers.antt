use Rattle.law_retold.proofs.Behind.{alone}
use Rattle.law_retold.proofs.laws.what_follows_a_retold_history_follows_its_journal.Goals as goal

pub returns : goal.returns
returns c = λ reads h q real w are database J count legal may since good. alone reads h q real w are database J count legal may since good
