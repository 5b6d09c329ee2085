use Rattle.std.proofs.Common.{refl, rules}
use Rattle.sql_reference.proofs.Answered.{save_steps, save_refused}
use Rattle.sql_reference.proofs.begun.RunningScript.save.Goals as goal

pub returns : goal.returns
returns c = λ T order places. save_steps T c.args.self.now order places _ c.args.name.now c.requires.explicit (search rules) (search rules)

pub returns-then-len-ge-MOST_SAVEPOINTS : goal.returns-then-len-ge-MOST_SAVEPOINTS
returns-then-len-ge-MOST_SAVEPOINTS c = λ T order places not. (save_refused T c.args.self.now c.args.name.now (search rules), refl, refl)
