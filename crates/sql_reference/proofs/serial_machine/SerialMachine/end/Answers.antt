use Rattle.std.proofs.Common.{rules}
use Rattle.sql_reference.proofs.Ended.{kept_order, back_order}
use Rattle.sql_reference.proofs.serial_machine.SerialMachine.end.Goals as goal
use Rattle.sql_reference.proofs.serial_machine.SerialMachine.end.Goals.{then-not-keep, else-not-keep+in-Some-1, else-not-keep+in-None-1}

pub returns-clause-order : goal.returns-clause-order
returns-clause-order c = elim c.if-not-keep.branch [
  | then-not-keep w ↦ back_order c.self.inside.tables.items c.in-Some.begun (search rules) c.if-not-keep.self (search rules)
  | else-not-keep+in-Some-1 w ↦ kept_order c.self.inside.tables.items c.in-Some.begun (search rules) c.if-not-keep.self (search rules)
  | else-not-keep+in-None-1 w ↦ kept_order c.self.inside.tables.items c.in-Some.begun (search rules) c.if-not-keep.self (search rules)
]
