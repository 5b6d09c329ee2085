use Rattle.std.proofs.Common.{◌≡◌, ◌++◌, drop, map, filter_map, slice_get}
use Rattle.sql_parts.proofs.keys.columns_at.Given as goal

abbrev pub invariant-loop-place : goal.invariant-loop-place
invariant-loop-place l =
    map (λ c. c.now) l.found.items ++ filter_map (slice_get l.columns) (drop l.place-index l.places) ≡ filter_map (slice_get l.columns) l.places
