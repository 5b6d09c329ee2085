use Rattle.std.proofs.Common.{◌≡◌, ◌≢◌, Some, None}
use Rattle.sql_parse.specs.Text.{reading_of}
use Rattle.sql_reference.specs.Machine.{Running}
use Rattle.sql_reference.specs.Order.{InOrder}
use Rattle.sql_reference.proofs.Differences.{Along}
use Rattle.sql_reference.proofs.serial_machine.SerialMachine.first_difference.Given as goal

abbrev pub invariant-loop-place : goal.invariant-loop-place
invariant-loop-place l =
    InOrder l.self × (l.self.script ≢ None) × ((x : Running) → l.initial.self.script ≡ Some x → Along (reading_of l.version) l.initial.self x l.script l.place l.self)
