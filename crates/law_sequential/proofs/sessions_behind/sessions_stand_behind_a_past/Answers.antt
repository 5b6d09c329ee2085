use Rattle.law_sequential.proofs.SessionsStandBehind.{sessions_stand_first, one_session_more}
use Rattle.law_sequential.proofs.sessions_behind.sessions_stand_behind_a_past.Goals as goal

pub returns : goal.returns
returns g = record {
  first = λ v database size past start. sessions_stand_first start;
  more = λ v database size past start phase lines moments told cells states c quiet name. one_session_more c quiet name;
}
