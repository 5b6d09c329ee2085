use Rattle.workload_generator.proofs.Numbers.{size, nth}
use Rattle.workload_generator.proofs.law.statements_law.Goals as goal

pub returns-clause-count : goal.returns-clause-count
returns-clause-count c = size

pub returns-clause-place : goal.returns-clause-place
returns-clause-place c = nth
