-- The first element at which something is found.
use Rattle.std.specs.Prelude.{ℕ, ◌+◌, Bool, if◌then◌else◌, List, [], ◌∷◌, Option, Some, None}
use Rattle.spec_model.specs.Lists.{or_else}
use Rattle.spec_verify.specs.declared.place.Place.{Place}

-- the place, where the test fails
abbrev pub unless : Bool → Place → Option Place
unless test place = if test then None else Some place

-- what is found at the first of these elements where something is; they are counted from n
abbrev pub first_from : {A B : Type 0} → (ℕ → A → Option B) → ℕ → List A → Option B
first_from found n [] = None
first_from found n (x ∷ xs) = or_else (found n x) (first_from found (n + 1) xs)

-- counted from 0
abbrev pub first : {A B : Type 0} → (ℕ → A → Option B) → List A → Option B
first found xs = first_from found 0 xs
