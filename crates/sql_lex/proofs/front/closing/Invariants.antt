use Rattle.std.proofs.Common.{◌≡◌, ◌+◌, ◌≤◌, length, false, None, IfSome}
use Rattle.sql_lex.specs.Front.{closing}
use Rattle.sql_lex.proofs.front.closing.Given as goal

abbrev pub invariant-loop-z : goal.invariant-loop-z
invariant-loop-z l =
    (closing l.is_second l.best l.at l.z ≡ closing false None l.first l.initial.z)
    × (l.at + length l.z ≡ length l.initial.z + l.first)
    × IfSome l.best (λ end. (1 ≤ end) × (end ≤ l.at))

abbrev pub decreases-loop-z : goal.decreases-loop-z
decreases-loop-z l = length l.z
