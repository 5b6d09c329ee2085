use Rattle.std.proofs.Common.{arith}
use Rattle.std.proofs.lemmas.Result.{err_from_is_err_and}
use Rattle.cli_audit.proofs.GetLemmas.{gave_none, gave_more, lacks_next}
use Rattle.cli_audit.proofs.PastLemmas.{gets_refused, lacks_journal, lacks_name, this_one, unfailed_refused}
use Rattle.cli_audit.proofs.past.journal_under.Goals as goal

-- the name isn't read

pub returns-in_err-bytes-clause-lacks : goal.returns-in_err-bytes-clause-lacks
returns-in_err-bytes-clause-lacks g c =
    let p = err_from_is_err_and c.from_residual.result c.from_residual.ensures.1 in
    rw (p.1, p.2) (lacks_name c.in_err-bytes.field-0.0 _ _ _ c.in_err-bytes.ensures.lacks c.in_err-bytes.ensures.cause)

pub returns-in_err-bytes-clause-gets : goal.returns-in_err-bytes-clause-gets
returns-in_err-bytes-clause-gets g c =
    let p = err_from_is_err_and c.from_residual.result c.from_residual.ensures.1 in
    rw (p.1, p.2) (lacks_next _ _ _ 0 1 _ c.in_err-bytes.field-0.0 _ _ (omega arith) c.in_err-bytes.ensures.lacks (gave_none _) c.in_err-bytes.ensures.answered)

-- no journal stands there

pub returns-in_err-journal-clause-lacks : goal.returns-in_err-journal-clause-lacks
returns-in_err-journal-clause-lacks g c =
    let p = err_from_is_err_and c.from_residual-in_err-journal.result c.from_residual-in_err-journal.ensures.1 in
    rw (p.1, p.2) (lacks_journal c.in_err-journal.field-0.0 _ (rw c.deref.ensures.value at c.in_err-journal.ensures.refused) _ _ _ c.in_ok-bytes.ensures.is_in_vault)

pub returns-in_err-journal-clause-gets : goal.returns-in_err-journal-clause-gets
returns-in_err-journal-clause-gets g c =
    let p = err_from_is_err_and c.from_residual-in_err-journal.result c.from_residual-in_err-journal.ensures.1 in
    rw (p.1, p.2) (gets_refused c.in_err-journal.field-0.0 _ c.in_err-journal.ensures.refused _ _ (gave_more _ _ _ 0 (gave_none _) c.in_ok-bytes.ensures.answered))

pub returns-in_err-journal-clause-unfailed : goal.returns-in_err-journal-clause-unfailed
returns-in_err-journal-clause-unfailed g c =
    let p = err_from_is_err_and c.from_residual-in_err-journal.result c.from_residual-in_err-journal.ensures.1 in
    rw (p.1, p.2) (unfailed_refused c.in_err-journal.field-0.0 _ c.in_err-journal.ensures.refused _ c.in_ok-bytes.ensures.calm)

-- a journal does

pub returns-clause-read : goal.returns-clause-read
returns-clause-read g c = this_one _ _ c.in_ok-journal.journal _ c.in_ok-bytes.ensures.is_in_vault (rw c.deref.ensures.value at c.in_ok-journal.ensures.spelled)

pub returns-clause-gave : goal.returns-clause-gave
returns-clause-gave g c = gave_more _ _ _ 0 (gave_none _) c.in_ok-bytes.ensures.answered
