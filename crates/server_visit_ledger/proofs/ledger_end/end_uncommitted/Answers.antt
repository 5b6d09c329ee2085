use Rattle.std.proofs.Common.{ℕ, subst}
use Rattle.server_visit_ledger.specs.LedgerMoves.{HasEnded}
use Rattle.server_visit_ledger.proofs.LedgerEnds.{ends}
use Rattle.server_visit_ledger.proofs.ledger_end.end_uncommitted.Goals as goal

pub returns : goal.returns
returns g c = ends g.H.Hash32.digest c.args.seat.now c.fix_end.new.seat c.args.ledger.now c.requires.work
    (subst (λ (n : ℕ). HasEnded g.H.Hash32.digest n c.args.seat.now c.fix_end.new.seat) c.point.ensures c.fix_end.ensures) c.requires.among
