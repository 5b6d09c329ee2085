use Rattle.std.proofs.Common.{ap, ◌∙◌, ℕ}
use Rattle.server_session.specs.LedgerVisits.{closed_by}
use Rattle.server_visit_ledger.proofs.Ledger.{keeps_there}
use Rattle.server_visit_ledger.proofs.LedgerIssues.{closes_full, refuses}
use Rattle.server_visit_ledger.proofs.ledger_issue.close_full.Goals as goal

pub close_block-requires-clause-hash : goal.close_block-requires-clause-hash
close_block-requires-clause-hash g c = λ κs l. keeps_there g.H.Hash32.digest c.args.seat.now c.args.ledger.now c.requires.among

pub returns-in-Ok : goal.returns-in-Ok
returns-in-Ok g c = closes_full g.H.Hash32.digest c.args.seat.now c.args.seat.now c.args.ledger.now c.close_block.new.self c.requires.work c.requires.full
    (c.in-Ok.ensures.cell ∙ ap (λ (k : ℕ). closed_by (g.H.Hash32.digest c.args.seat.now.hasher) k c.args.ledger.now.cell) c.block_size-size.ensures.size) c.in-Ok.ensures.hash c.requires.among

pub returns-in-Err : goal.returns-in-Err
returns-in-Err g c = refuses g.H.Hash32.digest c.args.seat.now c.answer_unsaid.new.seat c.args.ledger.now c.close_block.new.self c.requires.work c.in-Err.ensures.err c.answer_unsaid.ensures c.requires.among
