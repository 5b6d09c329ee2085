use Rattle.std.proofs.Common.{◌≡◌, map, take}
use Rattle.audit_asof.specs.KeyOrder.{place_in}
use Rattle.audit_asof.proofs.by_key.places_of.Given as goal

abbrev pub invariant-loop-one : goal.invariant-loop-one
invariant-loop-one l = l.places.items ≡ map place_in (map (λ p. (p.0, p.1.now)) (take l.one-index l.placed))
