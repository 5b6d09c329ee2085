use Rattle.law_sequential.proofs.SessionOutput.{times_are, made_are}
use Rattle.law_sequential.proofs.behind.times_behind_a_past_are_those_of_sessions.Goals as goal

pub returns : goal.returns
returns g =
    let adds = g.new_items_have_moments_of_seats.ensures.steps in
    λ v database size past names lines moments X images J G e. (times_are e adds, made_are e adds)
