use Rattle.std.proofs.Common.{refl}
use Rattle.cli_audit.proofs.AsOfLemmas.{answered_said, cause_lacking, cause_said, gets_said, idle_lacking, read_said, reads_said, unfailed_said, writes_lacking}
use Rattle.cli_audit.proofs.asof.answer_as_of.Goals as goal

-- nothing is said

pub returns-in-Err-clause-cause : goal.returns-in-Err-clause-cause
returns-in-Err-clause-cause g c = cause_lacking _ c.args.image.now _ _ _ _ _ _ c.in-Err.status c.in-Err.ensures.lacks _

pub returns-in-Err-clause-answered : goal.returns-in-Err-clause-answered
returns-in-Err-clause-answered g c = idle_lacking _ c.args.image.now _ _ _ _ _ _ c.in-Err.status c.in-Err.ensures.lacks _ _ refl

pub returns-in-Err-clause-writes : goal.returns-in-Err-clause-writes
returns-in-Err-clause-writes g c = writes_lacking _ c.args.image.now _ _ _ _ _ _ c.in-Err.status c.in-Err.ensures.lacks _

-- what is told is said

pub returns-in-Ok-clause-cause : goal.returns-in-Ok-clause-cause
returns-in-Ok-clause-cause g c = cause_said _ c.args.image.now _ _ _ _ c.in-Ok.answers c.in-Ok.ensures.told _ _ _ _ c.say-status.result c.say-status.ensures.ends _ _

pub returns-in-Ok-clause-answered : goal.returns-in-Ok-clause-answered
returns-in-Ok-clause-answered g c = answered_said _ c.args.image.now _ _ _ _ c.in-Ok.answers c.in-Ok.ensures.told _ _ _ _ c.say-status.result c.say-status.ensures.ends _ c.note_of-covers.ensures

pub returns-in-Ok-clause-read : goal.returns-in-Ok-clause-read
returns-in-Ok-clause-read g c =
    read_said _ _ _ _ _ _ c.say-status.result c.say-status.ensures.ends _ _ c.in-Ok.ensures.told.came c.in-Ok.ensures.told.is_input c.in-Ok.ensures.told.within c.in-Ok.ensures.all_read

pub returns-in-Ok-clause-reads : goal.returns-in-Ok-clause-reads
returns-in-Ok-clause-reads g c = reads_said _ _ _ _ _ _ c.say-status.result c.say-status.ensures.ends _ _ c.in-Ok.ensures.all_reads

pub returns-in-Ok-clause-gets : goal.returns-in-Ok-clause-gets
returns-in-Ok-clause-gets g c = gets_said _ _ _ _ _ _ c.say-status.result c.say-status.ensures.ends _ _ _ c.in-Ok.ensures.gave

pub returns-in-Ok-clause-unfailed : goal.returns-in-Ok-clause-unfailed
returns-in-Ok-clause-unfailed g c = unfailed_said _ _ _ _ _ _ c.say-status.result c.say-status.ensures.ends _ _ _ c.in-Ok.ensures.calm.0 c.in-Ok.ensures.calm.1 c.say-status.ensures.unfailed
