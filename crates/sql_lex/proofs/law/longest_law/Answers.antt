use Rattle.std.proofs.Common.{Some, None}
use Rattle.sql_lex.proofs.Laws.{says}
use Rattle.sql_lex.proofs.law.longest_law.Goals as goal

pub returns-clause-found : goal.returns-clause-found
returns-clause-found c = λ z k n e. let is = says z (Some (k, n)) e in (is.0, is.1, is.2)

pub returns-clause-no_longer : goal.returns-clause-no_longer
returns-clause-no_longer c = λ z k n m e. (says z (Some (k, n)) e).3 m

pub returns-clause-none : goal.returns-clause-none
returns-clause-none c = λ z m e. says z None e m
