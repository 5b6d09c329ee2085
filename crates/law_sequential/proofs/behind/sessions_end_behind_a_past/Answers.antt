use Rattle.law_sequential.proofs.GoesBehind.{ends_now}
use Rattle.law_sequential.proofs.behind.sessions_end_behind_a_past.Goals as goal

pub returns : goal.returns
returns g = λ v database size past start names lines cells seats c. ends_now c
