use Rattle.std.proofs.Common.{refl}
use Rattle.law_sequential.proofs.SessionOutput.{is_legal}
use Rattle.law_sequential.proofs.behind.journals_of_runs_behind_a_past_are_legal.Goals as goal

pub returns : goal.returns
returns g = λ v database size past names lines moments X images J G e named db good time. is_legal e v.reads refl named db good time
