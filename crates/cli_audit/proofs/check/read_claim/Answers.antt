use Rattle.std.proofs.Common.{arith}
use Rattle.std.proofs.lemmas.Result.{err_from_is_err_and}
use Rattle.cli_audit.proofs.GetLemmas.{gave_none, gave_more, lacks_next}
use Rattle.cli_audit.proofs.check.read_claim.Goals as goal

pub returns-in_err-receipt-clause-gets : goal.returns-in_err-receipt-clause-gets
returns-in_err-receipt-clause-gets g c =
    let p = err_from_is_err_and c.from_residual.result c.from_residual.ensures.1 in
    rw (p.1, p.2) (lacks_next _ _ _ 0 2 _ c.in_err-receipt.field-0.0 _ _ (omega arith) c.in_err-receipt.ensures.lacks (gave_none _) c.in_err-receipt.ensures.answered)

pub returns-in_err-digests-clause-gets : goal.returns-in_err-digests-clause-gets
returns-in_err-digests-clause-gets g c =
    let p = err_from_is_err_and c.from_residual-in_err-digests.result c.from_residual-in_err-digests.ensures.1 in
    let first = gave_more _ _ _ 0 (gave_none _) c.in_ok-receipt.ensures.answered in
    rw (p.1, p.2) (lacks_next _ _ _ 1 2 _ c.in_err-digests.field-0.0 _ _ (omega arith) c.in_err-digests.ensures.lacks first c.in_err-digests.ensures.answered)

pub returns-clause-gave : goal.returns-clause-gave
returns-clause-gave g c = gave_more _ _ _ 1 (gave_more _ _ _ 0 (gave_none _) c.in_ok-receipt.ensures.answered) c.in_ok-digests.ensures.answered
