use Rattle.audit_replay.specs.declared.running.ReplayErr.TheVariants as errors
use Rattle.cli_audit.proofs.PastLemmas.{gets_replayed}
use Rattle.cli_commands.proofs.StartLemmas.{under_weaker}
use Rattle.cli_commands.proofs.start.start_from.Goals as goal

pub returns-in-Ok-clause-starts : goal.returns-in-Ok-clause-starts
returns-in-Ok-clause-starts g c = under_weaker _ _ _ _ (λ J leads. c.in-Ok.ensures (g.H.Hash32.digest c.args.h) J leads) c.in_ok-past.ensures.past

pub returns-in-Err-clause-gets : goal.returns-in-Err-clause-gets
returns-in-Err-clause-gets g c = gets_replayed errors.Memory _ _ c.in_ok-past.ensures.gave
