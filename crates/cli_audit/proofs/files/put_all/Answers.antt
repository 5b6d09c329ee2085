use Rattle.std.proofs.Common.{◌∙◌, Ok, Err, refl}
use Rattle.std.proofs.lemmas.Result.{err_from_is_err_and}
use Rattle.cli_audit.specs.Calls.{KeptFile}
use Rattle.cli_audit.proofs.CallLemmas.{since_more, since_end}
use Rattle.cli_audit.proofs.FilesLemmas.{more_are_put, stops_at}
use Rattle.cli_audit.proofs.files.put_all.Goals as goal

pub loop-file-preserved : goal.loop-file-preserved
loop-file-preserved g c =
    let put = rw (c.as_str.ensures.value, c.bytes.ensures) at c.in_ok-put.ensures.puts in
    (more_are_put c.args.files.now c.loop-file.file-index c.file-item.result _ _ _ c.loop-file-test.true c.file-item.is c.loop-file.invariant.0 put, c.in_ok-put.ensures.counts ∙ c.loop-file.invariant.1, since_more _ _ _ KeptFile (Ok tt) c.loop-file.invariant.2 c.in_ok-put.ensures.answered refl)

pub returns-in_err-put-clause-err : goal.returns-in_err-put-clause-err
returns-in_err-put-clause-err g c =
    let p = err_from_is_err_and c.from_residual.result c.from_residual.ensures.1 in
    let put = rw (c.as_str.ensures.value, c.bytes.ensures) at c.in_err-put.ensures.puts in
    rw (p.1, p.2) (stops_at c.args.files.now c.loop-file.file-index c.file-item.result c.in_err-put.field-0.0 _ _ _ c.loop-file-test.true c.file-item.is c.loop-file.invariant.0 put)

pub returns-in_err-put-clause-some_puts : goal.returns-in_err-put-clause-some_puts
returns-in_err-put-clause-some_puts g c =
    let p = err_from_is_err_and c.from_residual.result c.from_residual.ensures.1 in
    rw (p.1, p.2) (since_end _ _ _ KeptFile (Err c.in_err-put.field-0.0) c.loop-file.invariant.2 c.in_err-put.ensures.answered)
