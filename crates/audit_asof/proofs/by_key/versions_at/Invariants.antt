use Rattle.std.proofs.Common.{◌≡◌, ◌++◌, drop, filter_map, map, slice_get}
use Rattle.audit_asof.proofs.by_key.versions_at.Given as goal

abbrev pub invariant-loop-place : goal.invariant-loop-place
invariant-loop-place l =
    map (λ v. v.now) l.found.items ++ filter_map (slice_get l.versions) (drop l.place-index l.places) ≡ filter_map (slice_get l.versions) l.places
