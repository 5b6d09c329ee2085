use Rattle.law_accepts.proofs.Rules.{one_statements_hold}
use Rattle.law_accepts.proofs.laws.honest_changes_are_of_one_statement.Goals as goal

pub returns : goal.returns
returns c = λ h reads database items written legal alone. one_statements_hold h reads database items written legal alone
