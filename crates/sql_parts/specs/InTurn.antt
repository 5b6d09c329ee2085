-- One after another, until one is refused or missing: what comes after what was made before.
use Rattle.std.specs.Prelude.{Bool, if◌then◌else◌, List, [], ◌∷◌, ◌++◌, Option, Some, None, Ok}
use Rattle.spec_model.specs.Refusals.{Checked, and_then}

-- what f gives for each, after these
abbrev pub map_after : {A B : Type 0} → (A → Checked B) → List B → List A → Checked (List B)
map_after f done [] = Ok done
map_after f done (x ∷ xs) = and_then (f x) (λ y. map_after f (done ++ y ∷ []) xs)

-- those that pass, after these
abbrev pub filter_after : {A : Type 0} → (A → Checked Bool) → List A → List A → Checked (List A)
filter_after test done [] = Ok done
filter_after test done (x ∷ xs) =
    and_then (test x) (λ b. filter_after test (if b then done ++ x ∷ [] else done) xs)

-- all of them, where none is missing, after these
abbrev pub some_after : {A : Type 0} → List A → List (Option A) → Option (List A)
some_after done [] = Some done
some_after done (Some x ∷ xs) = some_after (done ++ x ∷ []) xs
some_after done (None ∷ xs) = None
