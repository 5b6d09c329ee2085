use Rattle.std.proofs.Common.{◌≡◌, ◌≤◌, length, map, take}
use Rattle.store_table.specs.Orders.{starts_of}
use Rattle.store_table.proofs.building.starts_of.Given as goal

abbrev pub invariant-loop-version : goal.invariant-loop-version
invariant-loop-version l =
    (l.starts.list ≡ starts_of (map (λ v. v.now) (take l.version-index l.versions)))
    × (length l.versions ≤ l.starts.room)
    × (l.room ≤ l.starts.room)
