use Rattle.std.proofs.Common.{◌≡◌, take, map}
use Rattle.sql_parts.specs.Places.{place_in}
use Rattle.sql_parts.proofs.keys.places_of.Given as goal

abbrev pub invariant-loop-column : goal.invariant-loop-column
invariant-loop-column l = l.places.items ≡ map place_in (map (λ p. (p.0, p.1.now)) (take l.column-index l.placed))
