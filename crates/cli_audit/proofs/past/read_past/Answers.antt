use Rattle.std.proofs.Common.{subst}
use Rattle.std.proofs.lemmas.Result.{err_from_is_err_and}
use Rattle.audit_replay.specs.GoesOn.{LeadsOn}
use Rattle.format_journal.specs.Rules.{IsJournal}
use Rattle.cli_audit.proofs.PastLemmas.{cannot_go_on, gets_replayed, lacks_past, such_under, unfailed_replayed}
use Rattle.cli_audit.proofs.past.read_past.Goals as goal

-- no journal stands under the name

pub returns-in_err-journal-clause-lacks : goal.returns-in_err-journal-clause-lacks
returns-in_err-journal-clause-lacks g c =
    let p = err_from_is_err_and c.from_residual.result c.from_residual.ensures.1 in
    rw (p.1, p.2) (lacks_past c.in_err-journal.field-0.0 _ _ _ c.in_err-journal.ensures.lacks)

-- one does, and it is run again

pub past_of-requires-clause-journal : goal.past_of-requires-clause-journal
past_of-requires-clause-journal g c κs within =
    let read = c.in_ok-journal.ensures.read in
    subst IsJournal read.such read.spelled.0

pub returns-in-Err-clause-lacks : goal.returns-in-Err-clause-lacks
returns-in-Err-clause-lacks g c =
    rw c.status_of.ensures
    (cannot_go_on c.run_agrees_with_legal_items.ensures.back _ _ c.in_ok-journal.journal _ c.in_ok-journal.ensures.read c.in-Err.error c.in-Err.ensures.refused)

pub returns-in-Err-clause-gets : goal.returns-in-Err-clause-gets
returns-in-Err-clause-gets g c = rw c.status_of.ensures (gets_replayed c.in-Err.error _ _ c.in_ok-journal.ensures.gave)

pub returns-in-Err-clause-unfailed : goal.returns-in-Err-clause-unfailed
returns-in-Err-clause-unfailed g c = rw c.status_of.ensures (unfailed_replayed c.in-Err.error _ c.in_ok-journal.ensures.calm)

pub returns-in-Ok-clause-past : goal.returns-in-Ok-clause-past
returns-in-Ok-clause-past g c =
    such_under _ _ c.in_ok-journal.journal (λ J. LeadsOn (g.H.Hash32.digest c.args.h) c.args.block_size J c.in-Ok.past) c.in_ok-journal.ensures.read c.in-Ok.ensures.leads
