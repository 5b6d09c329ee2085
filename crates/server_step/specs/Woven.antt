-- Some lists, of which one after another gives its next element.
use Rattle.std.specs.Prelude.{ℕ, zero, suc, List, [], ◌∷◌, ◌++◌, map}
use Rattle.server_result.specs.Joined.{joined, joined_each}

-- the first element of the list at this place, if there is one
abbrev pub first_at : {A : Type 0} → ℕ → List (List A) → List A
first_at i [] = []
first_at zero ([] ∷ lists) = []
first_at zero ((x ∷ xs) ∷ lists) = x ∷ []
first_at (suc i) (xs ∷ lists) = first_at i lists

abbrev pub rest_of : {A : Type 0} → List A → List A
rest_of [] = []
rest_of (x ∷ xs) = xs

-- the lists, with that at this place without its first element
abbrev pub without_first : {A : Type 0} → ℕ → List (List A) → List (List A)
without_first i [] = []
without_first zero (xs ∷ lists) = rest_of xs ∷ lists
without_first (suc i) (xs ∷ lists) = xs ∷ without_first i lists

-- each element with the place of its list, from this place on, one list behind the other
abbrev pub in_turn : {A : Type 0} → ℕ → List (List A) → List (ℕ × A)
in_turn i [] = []
in_turn i (xs ∷ lists) = map (λ x. (i, x)) xs ++ in_turn (suc i) lists

-- for each of these places the next element of its list, and then what is left of the lists
abbrev pub woven : {A : Type 0} → List ℕ → List (List A) → List (ℕ × A)
woven [] lists = in_turn 0 lists
woven (i ∷ is) lists = map (λ x. (i, x)) (first_at i lists) ++ woven is (without_first i lists)

-- the same of texts, one behind the other
abbrev pub woven_text : List ℕ → List (List (List ℕ)) → List ℕ
woven_text [] lists = joined_each lists
woven_text (i ∷ is) lists = joined (first_at i lists) ++ woven_text is (without_first i lists)
