use Rattle.std.proofs.Common.{◌≡◌, take, map}
use Rattle.spec_model.specs.Keys.{value_at}
use Rattle.sql_parts.proofs.keys.key_of.Given as goal

abbrev pub invariant-loop-place : goal.invariant-loop-place
invariant-loop-place l = l.key.items ≡ map (value_at l.row) (take l.place-index l.places)
