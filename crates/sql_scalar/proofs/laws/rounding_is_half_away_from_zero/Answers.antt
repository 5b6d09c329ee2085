use Rattle.std.proofs.Common.{refl}
use Rattle.sql_scalar.proofs.Conversions.{nearest, both_sides}
use Rattle.sql_scalar.proofs.laws.rounding_is_half_away_from_zero.Goals as goal

pub returns : goal.returns
returns c = record { nearest = nearest; positive = λ n k. refl; negative = both_sides }
