use Rattle.std.proofs.Common.{rules}
use Rattle.sql_value.proofs.Numbers.{no_unit}
use Rattle.sql_value.proofs.number.raised.Goals as goal

pub returns-in_err-unit : goal.returns-in_err-unit
returns-in_err-unit c = rw c.from_residual.ensures (no_unit c.args.v c.args.places (simp (c.into.ensures) at c.in_err-unit.ensures) (λ e. absurd (search rules)))
