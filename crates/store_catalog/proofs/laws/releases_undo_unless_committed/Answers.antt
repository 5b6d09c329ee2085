use Rattle.std.proofs.Common.{refl}
use Rattle.store_catalog.proofs.Visits.{left_twice}
use Rattle.store_catalog.proofs.laws.releases_undo_unless_committed.Goals as goal

pub returns : goal.returns
returns c = record {
  committed = λ n tx cell. refl;
  ended = λ n tx back cell. rw (left_twice tx cell.creator) refl;
}
