use Rattle.std.proofs.Common.{refl}
use Rattle.law_sequential.proofs.FirstRuns.{ended_behind}
use Rattle.law_sequential.proofs.SessionOutput.{is_legal}
use Rattle.law_sequential.proofs.laws.journals_of_sequential_runs_are_legal.Goals as goal

pub returns : goal.returns
returns g =
    let starts = g.a_server_starts.ensures.with_a_journal in
    λ v database size names lines moments X images J G e named db good time. is_legal (ended_behind starts e) v.reads refl named db good time
