use Rattle.std.proofs.Common.{refl, arith}
use Rattle.law_workload.proofs.Turning.{as_many, all_shown, ids_are}
use Rattle.law_workload.proofs.laws.turns_come_to_one_end.Goals as goal

pub returns-clause-tables : goal.returns-clause-tables
returns-clause-tables c = λ reads rows items known few turns legal.
    all_shown reads known rows few (λ table. c.statements_law.ensures.count table rows) (λ table k. c.statements_law.ensures.place table rows k) items turns legal

pub returns-clause-order : goal.returns-clause-order
returns-clause-order c = λ reads rows items known few turns legal.
    ids_are reads known rows few (λ table. c.statements_law.ensures.count table rows) (λ table k. c.statements_law.ensures.place table rows k) items turns legal

pub returns-clause-transactions : goal.returns-clause-transactions
returns-clause-transactions c = λ rows items turns.
    omega (arith, as_many turns, c.statements_law.ensures.count 1 rows, c.statements_law.ensures.count 2 rows, c.statements_law.ensures.count 3 rows, c.statements_law.ensures.count 4 rows)

pub returns-clause-ten : goal.returns-clause-ten
returns-clause-ten c = refl
