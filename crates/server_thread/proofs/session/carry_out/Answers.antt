use Rattle.std.proofs.Common.{◌≡◌, length, subst}
use Rattle.std.specs.Prelude.{OnOk}
use Rattle.std.proofs.lemmas.Result.{on_ok_weaker}
use Rattle.server_thread.proofs.Over.{all_taken, written_for}
use Rattle.server_thread.proofs.session.carry_out.Goals as goal

pub returns-clause-over : goal.returns-clause-over
returns-clause-over g c = c.end_session.ensures.wrote.role

pub returns-in_err-ran-clause-over : goal.returns-in_err-ran-clause-over
returns-in_err-ran-clause-over g c = c.end_session.ensures.wrote.role

pub returns-clause-wrote : goal.returns-clause-wrote
returns-clause-wrote g c =
    let ran = c.run_statements-ran.ensures in
    let z = c.run_statements-ran.new.worker in
    let all = subst (λ r. OnOk r (z.taken ≡ length c.args.worker.now.job.statements.now)) c.in_ok-ran.was ran.all in
    on_ok_weaker c.write_last.result
    (λ shown. written_for g.C.Clock.says _ _ _ _ _ _ _ _ _ ran.job (all_taken z c.args.worker.now.job ran.job all) ran.known
    shown c.write_last.ensures.images c.end_session.ensures.wrote)
    c.write_last.ensures.entries
