use Rattle.std.proofs.Common.{arith}
use Rattle.std.proofs.lemmas.Result.{err_from_is_err_and}
use Rattle.cli_audit.proofs.GetLemmas.{gave_none, gave_more, lacks_next}
use Rattle.cli_audit.proofs.UpgradeLemmas.{lacks_name, lacks_image, gets_all, unfailed_image}
use Rattle.cli_audit.proofs.upgrade.image_under.Goals as goal

pub returns-in_err-bytes-clause-lacks : goal.returns-in_err-bytes-clause-lacks
returns-in_err-bytes-clause-lacks g c =
    let p = err_from_is_err_and c.from_residual.result c.from_residual.ensures.1 in
    rw (p.1, p.2) (lacks_name c.in_err-bytes.field-0.0 _ _ _ c.in_err-bytes.ensures.lacks c.in_err-bytes.ensures.cause)

pub returns-in_err-bytes-clause-gets : goal.returns-in_err-bytes-clause-gets
returns-in_err-bytes-clause-gets g c =
    let p = err_from_is_err_and c.from_residual.result c.from_residual.ensures.1 in
    rw (p.1, p.2) (lacks_next _ _ _ 0 1 _ c.in_err-bytes.field-0.0 _ _ (omega arith) c.in_err-bytes.ensures.lacks (gave_none _) c.in_err-bytes.ensures.answered)

pub returns-in_err-image-clause-lacks : goal.returns-in_err-image-clause-lacks
returns-in_err-image-clause-lacks g c =
    let p = err_from_is_err_and c.from_residual-in_err-image.result c.from_residual-in_err-image.ensures.1 in
    rw (p.1, p.2) (lacks_image c.in_err-image.field-0.0 _ (rw c.deref.ensures.value at c.in_err-image.ensures.refused) _ _ _ c.in_ok-bytes.ensures.is_in_vault)

pub returns-in_err-image-clause-gets : goal.returns-in_err-image-clause-gets
returns-in_err-image-clause-gets g c =
    let p = err_from_is_err_and c.from_residual-in_err-image.result c.from_residual-in_err-image.ensures.1 in
    rw (p.1, p.2) (gets_all c.in_err-image.field-0.0 _ c.in_err-image.ensures.refused _ _ (gave_more _ _ _ 0 (gave_none _) c.in_ok-bytes.ensures.answered))

pub returns-in_err-image-clause-unfailed : goal.returns-in_err-image-clause-unfailed
returns-in_err-image-clause-unfailed g c =
    let p = err_from_is_err_and c.from_residual-in_err-image.result c.from_residual-in_err-image.ensures.1 in
    rw (p.1, p.2) (unfailed_image c.in_err-image.field-0.0 _ c.in_err-image.ensures.refused _ c.in_ok-bytes.ensures.calm)

pub returns-clause-read : goal.returns-clause-read
returns-clause-read g c = record {
  bytes = c.in_ok-bytes.bytes.items;
  is_in_vault = c.in_ok-bytes.ensures.is_in_vault;
  spelled = rw c.deref.ensures.value at c.in_ok-image.ensures.spelled;
}

pub returns-clause-gave : goal.returns-clause-gave
returns-clause-gave g c = gave_more _ _ _ 0 (gave_none _) c.in_ok-bytes.ensures.answered
