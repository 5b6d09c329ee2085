use Rattle.std.proofs.Common.{◌≡◌, ◌+◌, ◌*◌, ◌^◌, ◌≤◌, length, drop}
use Rattle.sql_value.specs.Literal.{digits_after}
use Rattle.sql_scalar.proofs.literal.digits_after.Given as goal

abbrev pub invariant-loop-digit : goal.invariant-loop-digit
invariant-loop-digit l =
    (digits_after l.number (drop l.digit-index l.digits) ≡ digits_after l.start l.digits)
    × ((l.number + 1) * 10 ^ length (drop l.digit-index l.digits) ≤ (l.start + 1) * 10 ^ length l.digits)
