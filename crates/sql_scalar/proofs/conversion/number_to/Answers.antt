use Rattle.std.proofs.Common.{rules, arith}
use Rattle.sql_scalar.proofs.Ranges.{decimal_range}
use Rattle.sql_scalar.proofs.conversion.number_to.Goals as goal

pub overflow_cast-z : goal.overflow_cast-z
overflow_cast-z c = let range = decimal_range c.in-Decimal.p c.in-Decimal.z (search rules) in record { fits = omega (arith, range) }

pub decimal_to-requires : goal.decimal_to-requires
decimal_to-requires c = (decimal_range c.in-Decimal.p c.in-Decimal.z (search rules)).0
