use Rattle.std.proofs.Common.{refl}
use Rattle.cli_audit.proofs.ReplayLemmas.{gave_short, calls_by}
use Rattle.cli_audit.proofs.UpgradeLemmas.{calls_lacking, writes_lacking, cause_lacking, not_done, idle_lacking, cause_by, upgraded_by, upgraded_is, puts_the_same}
use Rattle.cli_audit.proofs.upgrade.upgrade_image.Goals as goal

-- nothing was put

pub returns-in-Err-clause-cause : goal.returns-in-Err-clause-cause
returns-in-Err-clause-cause g c = cause_lacking _ _ _ c.in-Err.status c.in-Err.ensures.lacks _

pub returns-in-Err-clause-upgraded : goal.returns-in-Err-clause-upgraded
returns-in-Err-clause-upgraded g c = idle_lacking _ _ _ c.in-Err.status c.in-Err.ensures.lacks _ _ (c.image_under.ensures.same, refl)

pub returns-in-Err-clause-same : goal.returns-in-Err-clause-same
returns-in-Err-clause-same g c = not_done _ _ _ c.in-Err.status c.in-Err.ensures.lacks _

pub returns-in-Err-clause-calls : goal.returns-in-Err-clause-calls
returns-in-Err-clause-calls g c = calls_lacking _ _ _ c.in-Err.status c.in-Err.ensures.lacks _ _ c.in-Err.ensures.gets

pub returns-in-Err-clause-writes : goal.returns-in-Err-clause-writes
returns-in-Err-clause-writes g c = writes_lacking _ _ _ c.in-Err.status c.in-Err.ensures.lacks _

pub returns-in_default-clause-calls : goal.returns-in_default-clause-calls
returns-in_default-clause-calls g c = gave_short _ _ c.in-Ok.ensures.gave

-- the image was put, and the line was written

pub returns-clause-cause : goal.returns-clause-cause
returns-clause-cause g c =
    cause_by c.put_and_write.result _ _ (rw c.in-Ok.ensures.calm at c.put_and_write.ensures.cause) c.args.image.now _
    (c.in-Ok.found, c.in-Ok.ensures.read)

pub returns-clause-upgraded : goal.returns-clause-upgraded
returns-clause-upgraded g c =
    upgraded_by c.put_and_write.result _ _ c.put_and_write.ensures.cause _ _
    (upgraded_is c.args.image.now c.args.save.now _ _ _ c.in-Ok.found c.in-Ok.ensures.read c.image_under.ensures.same
    c.put_and_write.result _ _ c.as_slice.ensures c.in-Ok-files_of.ensures c.put_and_write.ensures.put _ _ _ _ c.as_bytes.ensures.value c.upgraded_line.ensures c.put_and_write.ensures.written)

pub returns-clause-same : goal.returns-clause-same
returns-clause-same g c done =
    puts_the_same c.args.image.now c.args.save.now _ _ _ c.in-Ok.found c.in-Ok.ensures.read c.image_under.ensures.same
    c.put_and_write.result _ _ c.as_slice.ensures c.in-Ok-files_of.ensures c.put_and_write.ensures.put done

pub returns-clause-calls : goal.returns-clause-calls
returns-clause-calls g c = calls_by _ _ _ 1 c.put_and_write.result _ _ c.put_and_write.ensures.cause c.in-Ok.ensures.gave c.put_and_write.ensures.puts

pub returns-clause-unfailed : goal.returns-clause-unfailed
returns-clause-unfailed g c = rw c.in-Ok.ensures.calm at c.put_and_write.ensures.unfailed
