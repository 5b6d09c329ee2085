use Rattle.std.proofs.lemmas.Result.{err_from_is_err_and}
use Rattle.cli_audit.proofs.ReceiptLemmas.{shown_on, lacks_on}
use Rattle.cli_audit.proofs.receipt.show.Goals as goal

pub returns-in_err-receipt-in-Ok-Ok-clause-lacks :
    goal.returns-in_err-receipt-in-Ok-Ok-clause-lacks
returns-in_err-receipt-in-Ok-Ok-clause-lacks g c =
    let p = err_from_is_err_and c.from_residual-in_err-receipt-in-Ok-Ok.result c.from_residual-in_err-receipt-in-Ok-Ok.ensures.1 in
    let tried = rw c.in-Ok-Ok.field-0-is at c.in-Ok-Ok.ensures in
    rw (p.1, p.2) (lacks_on (g.H.Hash32.digest c.args.h) c.args.wanted c.args.bytes.now c.args.digests.now c.in_ok-held.held c.as_slice.result.now c.as_slice-in-Ok-Ok.result.now c.in-Ok-Ok.image
    c.in_ok-held.ensures.held c.as_slice.ensures c.as_slice-in-Ok-Ok.ensures tried c.in_err-receipt-in-Ok-Ok.field-0.0 c.in_err-receipt-in-Ok-Ok.ensures.lacks)

pub returns-in-Ok-Ok-clause-shown : goal.returns-in-Ok-Ok-clause-shown
returns-in-Ok-Ok-clause-shown g c =
    let tried = rw c.in-Ok-Ok.field-0-is at c.in-Ok-Ok.ensures in
    shown_on (g.H.Hash32.digest c.args.h) c.args.wanted c.args.bytes.now c.args.digests.now c.in_ok-held.held c.as_slice.result.now c.as_slice-in-Ok-Ok.result.now c.in-Ok-Ok.image
    c.in_ok-held.ensures.held c.as_slice.ensures c.as_slice-in-Ok-Ok.ensures tried c.in_ok-receipt-in-Ok-Ok.receipt c.in_ok-receipt-in-Ok-Ok.ensures.made
