use Rattle.law_behind.specs.Past.{no_past}
use Rattle.law_sequential.proofs.FirstRuns.{ended_behind}
use Rattle.law_sequential.proofs.SessionOutput.{run_agrees, run_agrees_behind}
use Rattle.law_sequential.proofs.laws.ended_sequential_runs_agree.Goals as goal

pub returns : goal.returns
returns g =
    let starts = g.a_server_starts.ensures.with_a_journal in
    let without = g.without_a_past_nothing_else_is_meant.ensures in
    λ h reads database size names lines moments X images J G named apart ended.
    run_agrees without.agree without.step_order h reads database size names lines X images J G
    (run_agrees_behind g.transcripts_agree_behind_the_past.ensures h reads database size no_past names lines moments X images J G named apart
    (λ v serves. ended_behind starts (ended v serves)))
