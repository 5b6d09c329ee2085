use Rattle.law_sequential.proofs.FirstRuns.{ended_behind}
use Rattle.law_sequential.proofs.SessionOutput.{times_are, made_are}
use Rattle.law_sequential.proofs.laws.times_are_those_of_sessions.Goals as goal

pub returns : goal.returns
returns g =
    let starts = g.a_server_starts.ensures.with_a_journal in
    let adds = g.new_items_have_moments_of_seats.ensures.steps in
    λ v database size names lines moments X images J G e. (times_are (ended_behind starts e) adds, made_are (ended_behind starts e) adds)
