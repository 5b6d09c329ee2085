use Rattle.std.proofs.Common.{◌≡◌, ◌++◌, replicate}
use Rattle.sql_scalar.proofs.printing.put_zeros.Given as goal

abbrev pub invariant-loop : goal.invariant-loop
invariant-loop l = l.out.items ≡ l.fn.out.items ++ replicate l.counter 48
