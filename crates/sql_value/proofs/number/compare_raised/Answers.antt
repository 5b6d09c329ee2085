use Rattle.std.proofs.Common.{arith}
use Rattle.std.specs.Int.{w128}
use Rattle.std.proofs.lemmas.Int.{ints, to_z-of_z}
use Rattle.sql_value.proofs.Numbers.{far_below, far_above}
use Rattle.sql_value.proofs.number.compare_raised.Goals as goal

pub returns-in-None : goal.returns-in-None
returns-in-None c = far_below c.args.v _ _ (simp (to_z-of_z w128 _ c.ranges.v) at c.in-None.ensures) c.ranges.w (omega (arith, ints))

pub returns-in-None-2 : goal.returns-in-None-2
returns-in-None-2 c = far_above c.args.v _ _ (simp (to_z-of_z w128 _ c.ranges.v) at c.in-None-2.ensures) c.ranges.w (omega (arith, ints))
