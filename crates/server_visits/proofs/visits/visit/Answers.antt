use Rattle.std.proofs.Common.{rules}
use Rattle.server_session.proofs.Sitting.{visits_same}
use Rattle.server_visits.proofs.visits.visit.Goals as goal
use Rattle.server_visits.proofs.visits.visit.Goals.{in-Catalog, in-Ledger, in-Rows}

pub returns-clause-visits : goal.returns-clause-visits
returns-clause-visits g c = elim c.match-cell.branch [
  | in-Catalog w ↦ visits_same g.H.Hash32.digest c.args.seat.now _ _ _ _ _ _ w.visit_catalog.ensures.visits (search rules) (search rules) (search rules)
  | in-Ledger w ↦ visits_same g.H.Hash32.digest c.args.seat.now _ _ _ _ _ _ w.visit_ledger.ensures.visits (search rules) (search rules) (search rules)
  | in-Rows w ↦ visits_same g.H.Hash32.digest c.args.seat.now _ _ _ _ _ _ w.visit_rows.ensures.visits (search rules) (search rules) (search rules)
]
