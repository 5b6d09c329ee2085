use Rattle.cli_audit.proofs.ReplayLemmas.{illegal_by}
use Rattle.cli_audit.proofs.replay.run_again.Goals as goal

pub returns-in-Err-clause-illegal : goal.returns-in-Err-clause-illegal
returns-in-Err-clause-illegal g c =
    rw c.status_of.ensures (illegal_by c.run_agrees_with_legal_items.ensures.back c.args.journal.now c.in-Err.error c.in-Err.ensures.differs)
