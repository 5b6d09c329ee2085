use Rattle.std.proofs.Common.{◌≡◌, ◌++◌, drop, map}
use Rattle.spec_model.specs.Columns.{place_of}
use Rattle.sql_select.proofs.showing.places_of.Given as goal

abbrev pub invariant-loop-name : goal.invariant-loop-name
invariant-loop-name l = l.places.items ++ map (place_of l.columns) (drop l.name-index l.names) ≡ map (place_of l.columns) l.names
