use Rattle.std.proofs.Common.{rules, arith, ◌∙◌, subst}
use Rattle.std.specs.Prelude.{FitsSigned}
use Rattle.std.specs.Int.{w128}
use Rattle.std.proofs.lemmas.Int.{to_z-of_z}
use Rattle.sql_scalar.proofs.Rounding.{rescaled_up, rescaled_down}
use Rattle.sql_scalar.proofs.number.rescaled.Goals as goal

pub returns-then-s-z : goal.returns-then-s-z
returns-then-s-z c =
    let made = simp (to_z-of_z w128 _ c.ranges.v) at c.raised.ensures in
    rw (← rescaled_up c.args.v c.args.s c.args.z (omega arith)) made

pub returns-else-s-z : goal.returns-else-s-z
returns-else-s-z c =
    let made = simp (to_z-of_z w128 _ c.ranges.v) at c.rounded.ensures in
    let is = made ∙ rescaled_down c.args.v c.args.s c.args.z (omega arith) in
    let f : FitsSigned w128 c.rounded.result = search rules in
    (subst (FitsSigned w128) is f, to_z-of_z w128 _ f ∙ is)
