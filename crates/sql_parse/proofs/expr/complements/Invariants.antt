use Rattle.std.proofs.Common.{◌≡◌}
use Rattle.sql_value.specs.declared.expr.Expr.TheVariants.{Not}
use Rattle.spec_syntax.specs.Expr.{times}
use Rattle.sql_parse.proofs.expr.complements.Given as goal

abbrev pub invariant-loop-turn : goal.invariant-loop-turn
invariant-loop-turn l = l.e ≡ times l._turn Not l.fn.e
