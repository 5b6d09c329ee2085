use Rattle.law_sequential.proofs.Over.{outcome_is}
use Rattle.law_sequential.proofs.behind.runs_behind_a_past_reach_their_outcome.Goals as goal

pub returns : goal.returns
returns g = λ v database size past start phase names lines cells seats c written wrote named apart below.
    outcome_is g.transcripts_agree_behind_the_past.ensures seats c written wrote named apart below
