use Rattle.law_sequential.proofs.GoesBehind.{session_more}
use Rattle.law_sequential.proofs.behind.sessions_begin_behind_a_past.Goals as goal

pub returns : goal.returns
returns g = λ v database size past start phase names lines cells seats c parent there present quiet name. session_more c parent there present quiet name
