use Rattle.law_sequential.proofs.SessionsStandBehind.{sessions_may_end, sessions_have_ended}
use Rattle.law_sequential.proofs.sessions_behind.ended_sessions_are_a_run_behind_a_past.Goals as goal

pub returns : goal.returns
returns g = record {
  may = λ v database size past start lines moments told cells states c. sessions_may_end c;
  over = λ v database size past start lines moments told cells states c rest l lies below ids. sessions_have_ended c rest l lies below ids;
}
