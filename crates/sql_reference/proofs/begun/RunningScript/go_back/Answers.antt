use Rattle.std.proofs.Common.{refl, rules}
use Rattle.sql_reference.proofs.Answered.{found_steps, back_refused}
use Rattle.sql_reference.proofs.begun.RunningScript.go_back.Goals as goal

pub returns-in_default : goal.returns-in_default
returns-in_default c = λ not. (back_refused c.args.tables.now.items c.args.self.now c.args.name.now (search rules), refl, refl)

pub returns : goal.returns
returns c =
    found_steps c.args.tables.now.items c.args.self.now c.requires.order c.requires.places c.rewind.new.tables.items c.rewind.new.self c.args.name.now c.in-Some.place
    (search rules) (search rules) c.rewind.ensures.tables c.rewind.ensures.script
