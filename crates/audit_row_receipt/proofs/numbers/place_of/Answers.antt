use Rattle.std.proofs.Common.{arith}
use Rattle.audit_row_receipt.proofs.Numbered.{none_at_all}
use Rattle.audit_row_receipt.proofs.numbers.place_of.Goals as goal

pub returns : goal.returns
returns c =
    let ends = c.loop-place-test.false in
    none_at_all c.args.seq c.loop-place.place c.args.leaves.now (omega (arith, ends)) c.loop-place.invariant
