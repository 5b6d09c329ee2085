use Rattle.std.proofs.Common.{arith, ◌≡◌, ◌∙◌, ap, sym}
use Rattle.std.specs.Int.{w128}
use Rattle.std.proofs.lemmas.Int.{to_z-of_z}
use Rattle.sql_value.specs.Number.{rounded}
use Rattle.sql_scalar.proofs.Rounding.{rounded_none}
use Rattle.sql_scalar.proofs.number.rounded.Goals as goal

pub returns-then-places-eq0 : goal.returns-then-places-eq0
returns-then-places-eq0 c =
    let none : c.args.places ≡ 0 = omega arith in
    to_z-of_z w128 _ c.ranges.v ∙ rounded_none c.args.v ∙ ap (rounded c.args.v) (sym none)
