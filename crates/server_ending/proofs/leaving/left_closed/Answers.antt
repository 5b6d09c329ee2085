use Rattle.std.proofs.Common.{sym, subst}
use Rattle.server_engine.specs.LedgerSeen.{ledger_seen}
use Rattle.server_ending.specs.Saved.{HasIssued}
use Rattle.server_ending.proofs.Leavings.{issued_of}
use Rattle.server_ending.proofs.leaving.left_closed.Goals as goal

pub issue_last-requires-after_bounds : goal.issue_last-requires-after_bounds
issue_last-requires-after_bounds g c κs within = (c.requires.keeps.is (ledger_seen c.in_ok-leaving.leaving.ledger) c.in_ok-leaving.ensures.there).2

pub returns : goal.returns
returns g c =
    let h = g.H.Hash32.digest c.args.hasher in
    let issued = c.in_ok-issue_last.ensures in
    subst (HasIssued h c.args.made c.args.finished) (sym c.into_run_outcome.ensures.ran)
    (issued_of c.args.finished c.in_ok-leaving.leaving c.in_ok-leaving.ensures h c.args.made c.requires.none issued.0 c.issue_last.new.ledger issued.1 c.into_run_outcome.ensures.next)
