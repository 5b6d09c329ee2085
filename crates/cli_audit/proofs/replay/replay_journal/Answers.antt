use Rattle.std.proofs.Common.{refl}
use Rattle.cli_audit.proofs.ReplayLemmas.{calls_lacking, writes_lacking, cause_lacking, not_done, idle_lacking, gave_short, calls_by, cause_by, replayed_by, legal_under, replayed_is, accepted_is}
use Rattle.cli_audit.proofs.replay.replay_journal.Goals as goal

-- nothing was put

pub returns-in-Err-clause-cause : goal.returns-in-Err-clause-cause
returns-in-Err-clause-cause g c = cause_lacking _ _ _ c.in-Err.status c.in-Err.ensures.lacks _

pub returns-in-Err-clause-replayed : goal.returns-in-Err-clause-replayed
returns-in-Err-clause-replayed g c = idle_lacking _ _ _ c.in-Err.status c.in-Err.ensures.lacks _ _ (c.run_name.ensures.same, refl)

pub returns-in-Err-clause-accepted : goal.returns-in-Err-clause-accepted
returns-in-Err-clause-accepted g c = not_done _ _ _ c.in-Err.status c.in-Err.ensures.lacks _

pub returns-in-Err-clause-calls : goal.returns-in-Err-clause-calls
returns-in-Err-clause-calls g c = calls_lacking _ _ _ c.in-Err.status c.in-Err.ensures.lacks _ _ c.in-Err.ensures.gets

pub returns-in-Err-clause-writes : goal.returns-in-Err-clause-writes
returns-in-Err-clause-writes g c = writes_lacking _ _ _ c.in-Err.status c.in-Err.ensures.lacks _

pub returns-in_default-clause-calls : goal.returns-in_default-clause-calls
returns-in_default-clause-calls g c = gave_short _ _ c.in-Ok.ensures.gave

-- files were put, and the line was written

pub returns-clause-cause : goal.returns-clause-cause
returns-clause-cause g c =
    cause_by c.put_and_write.result _ _ (rw c.in-Ok.ensures.calm at c.put_and_write.ensures.cause) c.args.journal.now _
    (legal_under _ _ _ c.in-Ok.ensures.image _ _ c.in-Ok.ensures.is_in_vault)

pub returns-clause-replayed : goal.returns-clause-replayed
returns-clause-replayed g c =
    replayed_by c.put_and_write.result _ _ c.put_and_write.ensures.cause _ _
    (replayed_is _ _ _ c.in-Ok.ensures.image c.put_and_write.result c.args.journal.now c.args.save.now _ _ _ _ _ _ _ _ _
    c.run_name.ensures.same c.in-Ok.ensures.is_in_vault c.in-Ok-output_of.ensures c.as_slice.ensures c.as_bytes.ensures.value c.put_and_write.ensures.put c.put_and_write.ensures.written)

pub returns-clause-accepted : goal.returns-clause-accepted
returns-clause-accepted g c done =
    accepted_is _ _ _ c.in-Ok.ensures.image c.put_and_write.result c.args.journal.now c.args.save.now _ _ _ _ _ _ done
    c.run_name.ensures.same c.in-Ok.ensures.is_in_vault c.in-Ok-output_of.ensures c.as_slice.ensures c.put_and_write.ensures.put

pub returns-clause-calls : goal.returns-clause-calls
returns-clause-calls g c = calls_by _ _ _ 1 c.put_and_write.result _ _ c.put_and_write.ensures.cause c.in-Ok.ensures.gave c.put_and_write.ensures.puts

pub returns-clause-unfailed : goal.returns-clause-unfailed
returns-clause-unfailed g c = rw c.in-Ok.ensures.calm at c.put_and_write.ensures.unfailed
