use Rattle.std.proofs.Common.{◌≡◌, drop, map}
use Rattle.spec_model.specs.Changes.{arranged}
use Rattle.spec_model.specs.Lists.{all_some}
use Rattle.sql_parts.specs.InTurn.{some_after}
use Rattle.sql_locks.specs.Inserted.{keyed_at}
use Rattle.sql_locks.proofs.inserted.key_values.Given as goal

abbrev pub invariant-loop-place : goal.invariant-loop-place
invariant-loop-place l =
    some_after l.key (map (keyed_at l.columns (arranged l.columns l.names l.row)) (drop l.place-index l.places))
    ≡ all_some (map (keyed_at l.columns (arranged l.columns l.names l.row)) l.places)
