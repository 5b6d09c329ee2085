use Rattle.std.proofs.Common.{arith, ◌∙◌, ap}
use Rattle.std.specs.Int.{w128}
use Rattle.std.specs.Ordering.{ordering_reverse}
use Rattle.std.proofs.lemmas.Int.{to_z-of_z}
use Rattle.sql_value.proofs.Numbers.{cmp_same, cmp_up, cmp_down}
use Rattle.sql_value.proofs.number.compare_numbers.Goals as goal

pub returns-then-s-z : goal.returns-then-s-z
returns-then-s-z c =
    let compared = simp (to_z-of_z w128 _ c.ranges.v, to_z-of_z w128 _ c.ranges.w) at c.cmp.ensures in
    compared ∙ cmp_same _ _ c.args.s c.args.z (omega arith)

pub returns-then-s-z-2 : goal.returns-then-s-z-2
returns-then-s-z-2 c =
    let compared = simp (to_z-of_z w128 _ c.ranges.v, to_z-of_z w128 _ c.ranges.w) at c.compare_raised.ensures in
    compared ∙ cmp_up _ _ c.args.s c.args.z (omega arith) (omega arith)

pub returns-else-s-z-2 : goal.returns-else-s-z-2
returns-else-s-z-2 c =
    let compared = simp (to_z-of_z w128 _ c.ranges.v, to_z-of_z w128 _ c.ranges.w) at c.compare_raised-else-s-z-2.ensures in
    c.reverse.ensures ∙ ap ordering_reverse compared ∙ cmp_down _ _ c.args.s c.args.z (omega arith) (omega arith)
