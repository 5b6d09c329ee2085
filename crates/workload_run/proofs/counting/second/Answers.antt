use Rattle.std.proofs.Common.{◌∙◌, sym}
use Rattle.workload_run.proofs.Seconds.{second_lacks, second_there}
use Rattle.workload_run.proofs.counting.second.Goals as goal

pub returns-in-Some : goal.returns-in-Some
returns-in-Some c = c.number_in.ensures ∙ second_there c.args.version.now.values c.in-Some.value.now (sym c.in-Some.ensures.value)

pub returns-in-None : goal.returns-in-None
returns-in-None c = second_lacks c.args.version.now.values (sym c.in-None.ensures.value)
