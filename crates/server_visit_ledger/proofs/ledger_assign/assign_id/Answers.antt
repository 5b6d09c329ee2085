use Rattle.server_visit_ledger.proofs.LedgerAssigns.{assigns_id}
use Rattle.server_visit_ledger.proofs.ledger_assign.assign_id.Goals as goal

pub returns : goal.returns
returns g c = assigns_id g.H.Hash32.digest c.args.seat.now c.go_on_with.new.seat c.args.ledger.now c.assign_next_id-drawn.new.ledger c.args.explicit c.assign_next_id-drawn.result
    c.requires.work c.assign_next_id-drawn.ensures c.go_on_with.ensures c.requires.among
