-- Words on lists that compute from the front.
use Rattle.std.specs.Prelude.{ℕ, zero, suc, ◌≡◌, ◌⊎◌, ◌+◌, List, [], ◌∷◌}
use Rattle.std.specs.List.{AllByRecursion}

-- the bytes of a text or a name
abbrev pub Text : Type 0
Text = List ℕ

-- each element is such: a short name of std's word
abbrev pub Each : {A : Type 0} → (A → Type 0) → List A → Type 0
Each P xs = AllByRecursion P xs

-- some element is such
abbrev pub Some_of : {A : Type 0} → (A → Type 0) → List A → Type 0
Some_of P [] = ⊥
Some_of P (x ∷ xs) = P x ⊎ Some_of P xs

abbrev pub In : {A : Type 0} → A → List A → Type 0
In y [] = ⊥
In y (x ∷ xs) = (x ≡ y) ⊎ In y xs

-- x stands at place i, counted from 0
abbrev pub At : {A : Type 0} → List A → ℕ → A → Type 0
At [] i x = ⊥
At (y ∷ ys) zero x = y ≡ x
At (y ∷ ys) (suc i) x = At ys i x

-- f n and so on, k numbers
abbrev pub sum_from : ℕ → ℕ → (ℕ → ℕ) → ℕ
sum_from n zero f = 0
sum_from n (suc k) f = f n + sum_from (suc n) k f

abbrev pub sum : List ℕ → ℕ
sum [] = 0
sum (n ∷ ns) = n + sum ns
