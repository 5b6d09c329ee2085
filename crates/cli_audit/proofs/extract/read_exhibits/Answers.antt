use Rattle.std.proofs.Common.{arith}
use Rattle.std.proofs.lemmas.Result.{err_from_is_err_and}
use Rattle.cli_audit.proofs.ExtractLemmas.{third_lacks}
use Rattle.cli_audit.proofs.GetLemmas.{gave_none, gave_more, lacks_next}
use Rattle.cli_audit.proofs.extract.read_exhibits.Goals as goal

pub returns-in_err-honest-clause-gets : goal.returns-in_err-honest-clause-gets
returns-in_err-honest-clause-gets g c =
    let p = err_from_is_err_and c.from_residual.result c.from_residual.ensures.1 in
    rw (p.1, p.2) (lacks_next _ _ _ 0 3 _ c.in_err-honest.field-0.0 _ _ (omega arith) c.in_err-honest.ensures.lacks (gave_none _) c.in_err-honest.ensures.answered)

pub returns-in_err-suspect-clause-gets : goal.returns-in_err-suspect-clause-gets
returns-in_err-suspect-clause-gets g c =
    let p = err_from_is_err_and c.from_residual-in_err-suspect.result c.from_residual-in_err-suspect.ensures.1 in
    let first = gave_more _ _ _ 0 (gave_none _) c.in_ok-honest.ensures.answered in
    rw (p.1, p.2) (lacks_next _ _ _ 1 3 _ c.in_err-suspect.field-0.0 _ _ (omega arith) c.in_err-suspect.ensures.lacks first c.in_err-suspect.ensures.answered)

pub returns-in_err-digests-clause-gets : goal.returns-in_err-digests-clause-gets
returns-in_err-digests-clause-gets g c =
    let p = err_from_is_err_and c.from_residual-in_err-digests.result c.from_residual-in_err-digests.ensures.1 in
    let two = gave_more _ _ _ 1 (gave_more _ _ _ 0 (gave_none _) c.in_ok-honest.ensures.answered) c.in_ok-suspect.ensures.answered in
    rw (p.1, p.2) (lacks_next _ _ _ 2 3 _ c.in_err-digests.field-0.0 _ _ (omega arith) c.in_err-digests.ensures.lacks two c.in_err-digests.ensures.answered)

pub returns-clause-gave : goal.returns-clause-gave
returns-clause-gave g c =
    gave_more _ _ _ 2 (gave_more _ _ _ 1 (gave_more _ _ _ 0 (gave_none _) c.in_ok-honest.ensures.answered) c.in_ok-suspect.ensures.answered) c.in_ok-digests.ensures.answered

pub returns-in_err-digests-clause-lacks : goal.returns-in_err-digests-clause-lacks
returns-in_err-digests-clause-lacks g c =
    let p = err_from_is_err_and c.from_residual-in_err-digests.result c.from_residual-in_err-digests.ensures.1 in
    rw (p.1, p.2) (third_lacks c.in_err-digests.field-0.0 _ _ _ c.args.honest.now c.args.suspect.now c.args.digests.now c.in_ok-honest.honest.items c.in_ok-suspect.suspect.items
    c.in_ok-honest.ensures.same c.in_ok-suspect.ensures.same c.in_ok-honest.ensures.is_in_vault c.in_ok-suspect.ensures.is_in_vault c.in_err-digests.ensures.lacks)
