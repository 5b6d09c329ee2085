use Rattle.std.proofs.Common.{List, subst}
use Rattle.std.proofs.lemmas.Result.{err_from_is_err_and}
use Rattle.sql_types.specs.declared.digest.HeldDigest.{HeldDigest}
use Rattle.audit_answers.specs.Covers.{IsJudged}
use Rattle.cli_audit.proofs.VerifyLemmas.{judgement_lacks}
use Rattle.cli_audit.proofs.verify.judge.Goals as goal

pub returns-in_err-held-clause-lacks : goal.returns-in_err-held-clause-lacks
returns-in_err-held-clause-lacks g c =
    let p = err_from_is_err_and c.from_residual.result c.from_residual.ensures.1 in
    rw (p.1, p.2) (judgement_lacks _ c.in_err-held.field-0.0 c.in_err-held.ensures.refused)

pub returns-in-Ok-clause-judged : goal.returns-in-Ok-clause-judged
returns-in-Ok-clause-judged g c = (
  c.in_ok-held.held,
  c.in_ok-held.ensures.held,
  subst (λ (l : List HeldDigest). IsJudged (g.H.Hash32.digest c.args.h) l c.args.image.items c.in-Ok.judgement) c.as_slice.ensures c.in-Ok.ensures,
)
