use Rattle.std.proofs.Common.{ap, map}
use Rattle.std.proofs.lemmas.Result.{err_from_is_err_and}
use Rattle.cli_audit.proofs.AsOfLemmas.{file_lacking, texts_lacking, told_so}
use Rattle.cli_audit.proofs.asof.tell_answers.Goals as goal

pub returns-in_err-texts-clause-lacks : goal.returns-in_err-texts-clause-lacks
returns-in_err-texts-clause-lacks g c =
    let p = err_from_is_err_and c.from_residual.result c.from_residual.ensures.1 in
    rw (p.1, p.2) (texts_lacking _ _ _ _ _ c.in_err-texts.field-0.0 c.in_err-texts.ensures.lacks)

pub returns-in_err-held-clause-lacks : goal.returns-in_err-held-clause-lacks
returns-in_err-held-clause-lacks g c =
    let p = err_from_is_err_and c.from_residual-in_err-held.result c.from_residual-in_err-held.ensures.1 in
    rw (p.1, p.2) (file_lacking _ _ _ _ _ _ c.in_ok-texts.ensures.read c.in_err-held.field-0.0 c.in_err-held.ensures.refused)

pub returns-in-Ok-clause-told : goal.returns-in-Ok-clause-told
returns-in-Ok-clause-told g c =
    told_so _ _ _ _ c.in_ok-held.held c.as_slice.result.now (ap (map (λ t. t.now)) c.deref.ensures.value) c.as_slice.ensures c.in_ok-texts.ensures.read c.in_ok-held.ensures.held _ c.in-Ok.ensures.told

pub returns-in-Err-TooFar-clause-lacks : goal.returns-in-Err-TooFar-clause-lacks
returns-in-Err-TooFar-clause-lacks g c =
    told_so _ _ _ _ c.in_ok-held.held c.as_slice.result.now (ap (map (λ t. t.now)) c.deref.ensures.value) c.as_slice.ensures c.in_ok-texts.ensures.read c.in_ok-held.ensures.held _ (c.in-Err-TooFar.ensures.far _ c.in-Err-TooFar.field-0-is)
