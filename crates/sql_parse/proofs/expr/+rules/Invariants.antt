use Rattle.std.proofs.Common.{◌≡◌, ◌+◌, ◌-◌, ◌*◌}
use Rattle.spec_syntax.specs.Expr as spec
use Rattle.law_syntax.proofs.Levels.{rank}
use Rattle.sql_parse.proofs.expr.+rules.Given as goal

abbrev pub decreases-prim : goal.decreases-prim
decreases-prim l = 12 * l.depth

abbrev pub decreases-unary : goal.decreases-unary
decreases-unary l = 12 * l.depth + 1

abbrev pub decreases-operand : goal.decreases-operand
decreases-operand l = 12 * l.depth + rank l.level

abbrev pub decreases-grouped : goal.decreases-grouped
decreases-grouped l = 12 * l.depth + rank l.level + 1

abbrev pub decreases-cmp : goal.decreases-cmp
decreases-cmp l = 12 * l.depth + 6

abbrev pub decreases-not : goal.decreases-not
decreases-not l = 12 * l.depth + 7

abbrev pub invariant-grouped-loop-turn : goal.invariant-grouped-loop-turn
invariant-grouped-loop-turn l =
    spec.level (spec.expr l.depth) l.level l.fn.c
    ≡ spec.more (spec.operator l.level) (spec.operand (spec.expr l.depth) l.level) (l._turn-end - l._turn) l.left l.c
