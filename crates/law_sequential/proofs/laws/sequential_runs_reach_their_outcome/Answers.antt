use Rattle.law_sequential.proofs.FirstRuns.{outcome_first}
use Rattle.law_sequential.proofs.laws.sequential_runs_reach_their_outcome.Goals as goal

pub returns : goal.returns
returns g =
    let without = g.without_a_past_nothing_else_is_meant.ensures in
    λ v database size phase names lines cells seats c written wrote named apart below.
    outcome_first g.a_server_starts.ensures.with_a_journal g.transcripts_agree_behind_the_past.ensures without.agree without.step_order seats c written wrote named apart below
