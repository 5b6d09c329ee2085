use Rattle.law_sequential.proofs.SessionOutput.{run_agrees, run_agrees_back}
use Rattle.law_sequential.proofs.behind.runs_behind_no_past_agree.Goals as goal

pub returns : goal.returns
returns g =
    let without = g.without_a_past_nothing_else_is_meant.ensures in
    λ h reads database size names lines X images J G. (
      run_agrees without.agree without.step_order h reads database size names lines X images J G,
      run_agrees_back without.agree without.step_order h reads database size names lines X images J G,
    )
