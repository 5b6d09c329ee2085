use Rattle.std.proofs.Common.{◌≡◌, ◌-◌, ◌≤◌}
use Rattle.spec_syntax.specs.Input.{repeated_at}
use Rattle.law_printing.proofs.Repeats.{adds}
use Rattle.sql_parse.proofs.cursor.Cursor.repeated.Given as goal

abbrev pub invariant-loop-tag : goal.invariant-loop-tag
invariant-loop-tag l =
    (repeated_at l.tag l.initial.self.rest l.initial.self.left ≡ adds (l.before - l.self.left) (repeated_at l.tag l.self.rest l.self.left))
    × (l.self.left ≤ l.before)

abbrev pub decreases-loop-tag : goal.decreases-loop-tag
decreases-loop-tag l = l.self.left
