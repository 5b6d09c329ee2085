use Rattle.std.proofs.Common.{refl}
use Rattle.std.specs.Int.{w128}
use Rattle.std.proofs.lemmas.Int.{to_z-of_z}
use Rattle.sql_value.specs.Number.{rescaled}
use Rattle.sql_scalar.proofs.Ranges.{many_digits}
use Rattle.sql_scalar.proofs.conversion.decimal_to.Goals as goal

pub returns-in-None : goal.returns-in-None
returns-in-None c =
    let out = simp (to_z-of_z w128 _ c.ranges.v) at c.in-None.ensures in
    rw (many_digits (rescaled c.args.v c.args.s c.args.z) c.args.p c.requires out) refl
