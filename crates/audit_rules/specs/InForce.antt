-- Which rows are in force at a place, of rows that stand by the table that they are about and then by place.
use Rattle.std.specs.Prelude.{◌&&◌, ◌||◌, not, Bool, false, true, if◌then◌else◌, List, [], ◌∷◌}
use Rattle.spec_rules.specs.Places.{EventPlace, PlacedRow, stands_before}
use Rattle.spec_rules.specs.Rows.{same_thing}

-- one of these rows, which stand behind this one, is about the same table and stands after it and before the place
abbrev pub is_superseded : EventPlace → PlacedRow → List PlacedRow → Bool
is_superseded place r [] = false
is_superseded place r (b ∷ bs) =
    if same_thing 0 b r && stands_before b.place place
    then if stands_before r.place b.place then true else is_superseded place r bs
    else false

-- a row that passes is in force at the place
abbrev pub any_standing : (PlacedRow → Bool) → EventPlace → List PlacedRow → Bool
any_standing p place [] = false
any_standing p place (r ∷ rs) =
    (stands_before r.place place && (p r && not (is_superseded place r rs))) || any_standing p place rs
