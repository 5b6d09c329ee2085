use Rattle.law_sequential.proofs.GoesBehind.{one_more, alones_more, visit_more, visit_inside}
use Rattle.law_sequential.proofs.behind.runs_behind_a_past_go_on.Goals as goal

pub returns : goal.returns
returns g = record {
  any = λ v database size past start phase names lines cells then_cells seats then_seats c step one phased l there closes. one_more c step one phased l there closes;
  alone = λ v database size past start phase names lines cells seats c j s t there quiet steps phased. alones_more c j s there quiet t steps phased;
  visits = λ v database size past start phase names lines cells seats c j s there quiet out outs i d t m phased waits. visit_more c j s there quiet out outs i d t m phased waits;
  inside = λ v database size past start phase names lines cells seats c j s there quiet out outs i d t m inside waits. visit_inside c j s there quiet out outs i d t m inside waits;
}
