use Rattle.store_locks.proofs.Indexes.{group_covers}
use Rattle.store_locks.proofs.index.places_of.Goals as goal

pub returns-clause-covers : goal.returns-clause-covers
returns-clause-covers c =
    let first = c.first_at-first in
    let end = c.end_at-end in
    group_covers c.args.holds.now c.args.places.now c.args.item.now first.result end.result c.requires end.ensures.bound.0 end.ensures.bound.1 first.ensures.before first.ensures.behind end.ensures.other
