use Rattle.std.proofs.Common.{◌≡◌, ◌+◌, ◌*◌, ◌^◌, ◌≤◌, length, drop}
use Rattle.sql_value.specs.Literal.{digits_after}
use Rattle.sql_parse.proofs.column.number_of.Given as goal

abbrev pub invariant-loop-digit : goal.invariant-loop-digit
invariant-loop-digit l =
    (digits_after l.number (drop l.digit-index l.text) ≡ digits_after 0 l.text)
    × ((l.number + 1) * 10 ^ length (drop l.digit-index l.text) ≤ 10 ^ length l.text)
