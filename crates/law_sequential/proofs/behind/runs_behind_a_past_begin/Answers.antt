use Rattle.law_sequential.proofs.GoesBehind.{sequential_run_begins}
use Rattle.law_sequential.proofs.behind.runs_behind_a_past_begin.Goals as goal

pub returns : goal.returns
returns c = λ v database size past start. sequential_run_begins start
