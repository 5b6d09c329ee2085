use Rattle.std.proofs.Common.{◌≡◌}
use Rattle.sql_value.specs.declared.expr.Expr.TheVariants.{Neg}
use Rattle.spec_syntax.specs.Expr.{times}
use Rattle.sql_parse.proofs.expr.negations.Given as goal

abbrev pub invariant-loop-turn : goal.invariant-loop-turn
invariant-loop-turn l = l.e ≡ times l._turn Neg l.fn.e
