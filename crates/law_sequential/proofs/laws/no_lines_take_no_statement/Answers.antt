use Rattle.law_sequential.proofs.Goes.{all_silent, may_silent}
use Rattle.law_sequential.proofs.laws.no_lines_take_no_statement.Goals as goal

pub returns : goal.returns
returns g = record {
  alone = λ v s t steps e. all_silent steps e;
  visits = λ v s out i c t m e. may_silent m e;
}
