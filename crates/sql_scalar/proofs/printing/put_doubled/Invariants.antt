use denote.Text.{Utf8}
use denote.Shadow.{shadow}
use Rattle.std.proofs.Common.{◌≡◌, ◌++◌, length, take, vec_len}
use Rattle.sql_value.specs.Printed.{doubled}
use Rattle.sql_scalar.proofs.printing.put_doubled.Given as goal

abbrev pub invariant-loop-before : goal.invariant-loop-before
invariant-loop-before l =
    shadow (Utf8 l.rest)
    × (l.out.items ++ doubled l.rest ≡ l.fn.out.items ++ doubled l.text)
    × (take (vec_len l.fn.out) l.out.items ≡ l.fn.out.items)

abbrev pub decreases-loop-before : goal.decreases-loop-before
decreases-loop-before l = length l.rest
