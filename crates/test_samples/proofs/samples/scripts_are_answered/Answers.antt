use Rattle.test_samples.proofs.Worked as laws
use Rattle.test_samples.proofs.samples.scripts_are_answered.Goals as goal

pub returns : goal.returns
returns c = record {
  savepoints = laws.savepoints;
  savepoint_65 = laws.savepoint_65;
  alone = laws.alone;
  back_twice = laws.back_twice;
}
