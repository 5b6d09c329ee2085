use Rattle.std.proofs.Common.{option_map, refl}
use Rattle.std.proofs.lemmas.Result.{err_from_is_err_and, IfErr-weaker, IfOk-weaker}
use Rattle.cli_audit.proofs.AsOfLemmas.{name_answers, name_gets, name_no_reads, name_unfailed, name_unread, of_these, unread_answers, unread_gets, unread_unfailed, work_answers, work_gets, work_read, work_reads, work_unfailed}
use Rattle.cli_audit.proofs.asof.tell_names.Goals as goal

-- a name isn't read

pub returns-in_err-subject-clause-lacks : goal.returns-in_err-subject-clause-lacks
returns-in_err-subject-clause-lacks g c =
    let p = err_from_is_err_and c.from_residual.result c.from_residual.ensures.1 in
    rw (p.1, p.2) (name_answers c.args.image.now _ _ c.in_err-subject.field-0.0 c.in_err-subject.ensures.lacks _ _ _ _ _ c.in_err-subject.ensures.cause)

pub returns-in_err-subject-clause-read : goal.returns-in_err-subject-clause-read
returns-in_err-subject-clause-read g c =
    let p = err_from_is_err_and c.from_residual.result c.from_residual.ensures.1 in
    rw (p.1, p.2) (name_unread c.args.image.now _ _ c.in_err-subject.field-0.0 c.in_err-subject.ensures.lacks _)

pub returns-in_err-subject-clause-reads : goal.returns-in_err-subject-clause-reads
returns-in_err-subject-clause-reads g c =
    let p = err_from_is_err_and c.from_residual.result c.from_residual.ensures.1 in
    rw (p.1, p.2) (name_no_reads c.args.image.now _ _ c.in_err-subject.field-0.0 c.in_err-subject.ensures.lacks _)

pub returns-in_err-subject-clause-gets : goal.returns-in_err-subject-clause-gets
returns-in_err-subject-clause-gets g c =
    let p = err_from_is_err_and c.from_residual.result c.from_residual.ensures.1 in
    rw (p.1, p.2) (name_gets c.args.image.now _ _ c.in_err-subject.field-0.0 c.in_err-subject.ensures.lacks _ _ _ c.in_err-subject.ensures.gets)

pub returns-in_err-subject-clause-unfailed : goal.returns-in_err-subject-clause-unfailed
returns-in_err-subject-clause-unfailed g c =
    let p = err_from_is_err_and c.from_residual.result c.from_residual.ensures.1 in
    rw (p.1, p.2) (name_unfailed c.args.image.now _ _ c.in_err-subject.field-0.0 c.in_err-subject.ensures.lacks _ _ _ refl c.in_err-subject.ensures.unfailed)

-- the input isn't read to its end

pub returns-in_err-input-clause-lacks : goal.returns-in_err-input-clause-lacks
returns-in_err-input-clause-lacks g c =
    let p = err_from_is_err_and c.from_residual-in_err-input.result c.from_residual-in_err-input.ensures.1 in
    rw (p.1, p.2) (unread_answers _ _ c.in_err-input.field-0.0 c.in_err-input.ensures.lacks _ c.args.image.now _ _ _ _
    (c.in_ok-subject.subject.image.items, option_map (λ v. v.items) c.in_ok-subject.subject.digests, c.in_ok-subject.ensures.are))

pub returns-in_err-input-clause-gets : goal.returns-in_err-input-clause-gets
returns-in_err-input-clause-gets g c =
    let p = err_from_is_err_and c.from_residual-in_err-input.result c.from_residual-in_err-input.ensures.1 in
    rw (p.1, p.2) (unread_gets _ _ c.in_err-input.field-0.0 c.in_err-input.ensures.lacks _ _ _ c.in_ok-subject.ensures.gave)

pub returns-in_err-input-clause-unfailed : goal.returns-in_err-input-clause-unfailed
returns-in_err-input-clause-unfailed g c =
    let p = err_from_is_err_and c.from_residual-in_err-input.result c.from_residual-in_err-input.ensures.1 in
    rw (p.1, p.2) (unread_unfailed _ _ c.in_err-input.field-0.0 c.in_err-input.ensures.lacks _ _ c.in_ok-subject.ensures.calm c.in_err-input.ensures.unfailed)

-- both are

pub returns-clause-told : goal.returns-clause-told
returns-clause-told g c =
    IfOk-weaker c.tell_answers.result _ _ (λ answers told.
    of_these c.args.image.now _ _ _ _ _ _ _ _ _ c.deref.ensures.value c.file_in.ensures c.deref-2.ensures.value c.in_ok-subject.ensures.are c.in_ok-input.ensures.came c.in_ok-input.ensures.within _ told)
    c.tell_answers.ensures.told

pub returns-clause-lacks : goal.returns-clause-lacks
returns-clause-lacks g c =
    IfErr-weaker c.tell_answers.result _ _ (λ status lacks.
    work_answers c.args.image.now _ _ _ _ _ _ _ _ _ c.deref.ensures.value c.file_in.ensures c.deref-2.ensures.value c.in_ok-subject.ensures.are c.in_ok-input.ensures.came c.in_ok-input.ensures.within _ _ _ _ status lacks)
    c.tell_answers.ensures.lacks

pub returns-clause-read : goal.returns-clause-read
returns-clause-read g c =
    IfErr-weaker c.tell_answers.result _ _ (λ status lacks.
    work_read _ _ _ _ _ status lacks _ _ c.in_ok-input.input.items c.in_ok-input.ensures.came c.in_ok-input.ensures.within c.in_ok-input.ensures.rest)
    c.tell_answers.ensures.lacks

pub returns-clause-reads : goal.returns-clause-reads
returns-clause-reads g c =
    IfErr-weaker c.tell_answers.result _ _ (λ status lacks. work_reads _ _ _ _ _ status lacks _ _ c.in_ok-input.ensures.all_reads) c.tell_answers.ensures.lacks

pub returns-clause-gets : goal.returns-clause-gets
returns-clause-gets g c =
    IfErr-weaker c.tell_answers.result _ _ (λ status lacks. work_gets _ _ _ _ _ status lacks _ _ _ c.in_ok-subject.ensures.gave) c.tell_answers.ensures.lacks

pub returns-clause-unfailed : goal.returns-clause-unfailed
returns-clause-unfailed g c =
    IfErr-weaker c.tell_answers.result _ _ (λ status lacks. work_unfailed _ _ _ _ _ status lacks _ _ c.in_ok-input.ensures.calm c.in_ok-subject.ensures.calm)
    c.tell_answers.ensures.lacks
