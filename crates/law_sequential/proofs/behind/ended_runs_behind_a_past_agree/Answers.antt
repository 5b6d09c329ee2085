use Rattle.law_behind.specs.Past.{no_past}
use Rattle.law_sequential.proofs.SessionOutput.{run_agrees, run_agrees_behind}
use Rattle.law_sequential.proofs.behind.ended_runs_behind_a_past_agree.Goals as goal

pub returns : goal.returns
returns g =
    let agrees_behind = g.transcripts_agree_behind_the_past.ensures in
    let without = g.without_a_past_nothing_else_is_meant.ensures in
    record {
      behind = λ h reads database size past names lines moments X images J G named apart ended.
          run_agrees_behind agrees_behind h reads database size past names lines moments X images J G named apart ended;
      first = λ h reads database size names lines moments X images J G named apart ended.
          run_agrees without.agree without.step_order h reads database size names lines X images J G
          (run_agrees_behind agrees_behind h reads database size no_past names lines moments X images J G named apart ended);
    }
