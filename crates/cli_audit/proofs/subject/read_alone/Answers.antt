use Rattle.std.proofs.Common.{arith}
use Rattle.std.proofs.lemmas.Result.{err_from_is_err_and}
use Rattle.cli_audit.proofs.GetLemmas.{gave_none, gave_more, lacks_next}
use Rattle.cli_audit.proofs.subject.read_alone.Goals as goal

pub returns-in_err-bytes-clause-gets : goal.returns-in_err-bytes-clause-gets
returns-in_err-bytes-clause-gets g c =
    let p = err_from_is_err_and c.from_residual.result c.from_residual.ensures.1 in
    rw (p.1, p.2) (lacks_next _ _ _ 0 1 _ c.in_err-bytes.field-0.0 _ _ (omega arith) c.in_err-bytes.ensures.lacks (gave_none _) c.in_err-bytes.ensures.answered)

pub returns-clause-gave : goal.returns-clause-gave
returns-clause-gave g c = gave_more _ _ _ 0 (gave_none _) c.in_ok-bytes.ensures.answered
