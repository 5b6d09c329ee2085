use Rattle.std.proofs.Common.{arith}
use Rattle.std.proofs.lemmas.Result.{err_from_is_err_and}
use Rattle.cli_audit.proofs.GetLemmas.{gave_none, gave_more, lacks_next}
use Rattle.cli_audit.proofs.ReplayLemmas.{lacks_name, lacks_image, gets_all, unfailed_image}
use Rattle.cli_audit.proofs.replay.run_name.Goals as goal

pub returns-in_err-journal-clause-lacks : goal.returns-in_err-journal-clause-lacks
returns-in_err-journal-clause-lacks g c =
    let p = err_from_is_err_and c.from_residual.result c.from_residual.ensures.1 in
    rw (p.1, p.2) (lacks_name c.in_err-journal.field-0.0 _ _ _ c.in_err-journal.ensures.lacks c.in_err-journal.ensures.cause)

pub returns-in_err-journal-clause-gets : goal.returns-in_err-journal-clause-gets
returns-in_err-journal-clause-gets g c =
    let p = err_from_is_err_and c.from_residual.result c.from_residual.ensures.1 in
    rw (p.1, p.2) (lacks_next _ _ _ 0 1 _ c.in_err-journal.field-0.0 _ _ (omega arith) c.in_err-journal.ensures.lacks (gave_none _) c.in_err-journal.ensures.answered)

pub returns-in_err-image-clause-lacks : goal.returns-in_err-image-clause-lacks
returns-in_err-image-clause-lacks g c =
    let p = err_from_is_err_and c.from_residual-in_err-image.result c.from_residual-in_err-image.ensures.1 in
    rw (p.1, p.2) (lacks_image c.in_err-image.field-0.0 _ (rw c.deref.ensures.value at c.in_err-image.ensures.lacks) _ _ _ c.in_ok-journal.ensures.is_in_vault)

pub returns-in_err-image-clause-gets : goal.returns-in_err-image-clause-gets
returns-in_err-image-clause-gets g c =
    let p = err_from_is_err_and c.from_residual-in_err-image.result c.from_residual-in_err-image.ensures.1 in
    rw (p.1, p.2) (gets_all c.in_err-image.field-0.0 _ c.in_err-image.ensures.lacks _ _ (gave_more _ _ _ 0 (gave_none _) c.in_ok-journal.ensures.answered))

pub returns-in_err-image-clause-unfailed : goal.returns-in_err-image-clause-unfailed
returns-in_err-image-clause-unfailed g c =
    let p = err_from_is_err_and c.from_residual-in_err-image.result c.from_residual-in_err-image.ensures.1 in
    rw (p.1, p.2) (unfailed_image c.in_err-image.field-0.0 _ c.in_err-image.ensures.lacks _ c.in_ok-journal.ensures.calm)

pub returns-clause-image : goal.returns-clause-image
returns-clause-image g c = rw c.deref.ensures.value at c.in_ok-image.ensures.image

pub returns-clause-gave : goal.returns-clause-gave
returns-clause-gave g c = gave_more _ _ _ 0 (gave_none _) c.in_ok-journal.ensures.answered
