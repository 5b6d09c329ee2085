use Rattle.std.proofs.Common.{◌≡◌, ◌++◌, filter_map, map}
use Rattle.std.specs.Prelude.{slice_range}
use Rattle.store_table.specs.Orders.{version_at}
use Rattle.store_table.proofs.reading.versions_of.Given as goal

abbrev pub invariant-loop-place : goal.invariant-loop-place
invariant-loop-place l =
    map (λ v. v.now) l.found.items ++ filter_map (λ s. version_at s l.versions) (slice_range l.order.list l.place l.behind)
    ≡ filter_map (λ s. version_at s l.versions) (slice_range l.order.list l.first l.behind)
