use Rattle.audit_row_receipt.proofs.Numbered.{NoneBefore}
use Rattle.audit_row_receipt.proofs.numbers.place_of.Given as goal

abbrev pub invariant-loop-place : goal.invariant-loop-place
invariant-loop-place l = NoneBefore l.seq l.leaves l.place
