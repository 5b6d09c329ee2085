use Rattle.audit_replay.proofs.past.close_full.Goals as goal

pub returns-clause-closes : goal.returns-clause-closes
returns-clause-closes g c = record {
  count = c.in_ok-closed.closed.1;
  items = c.in_ok-add_closings.ensures;
  ledger = c.in_ok-closed.ensures.ledger;
  full = c.in_ok-closed.ensures.full;
}
