-- What is found first of so many elements of a list, from one place on.
use Rattle.std.proofs.Common.{◌≡◌, ◌<◌, ◌≤◌, ◌+◌, ℕ, suc, refl, sym, ap, ◌∙◌, List, [], ◌∷◌, ◌++◌, length, take, drop, get_or, arith, Option, Some, None}
use Rattle.std.proofs.lemmas.List.{length-drop, length-take-le}
use Rattle.spec_model.specs.Lists.{or_else}
use Rattle.spec_verify.specs.First.{first, first_from}
use Rattle.audit_definitions.proofs.Walks.{from_here}
use Rattle.audit_roots.proofs.Parts.{side_by_side, take_whole}

-- the first of three
pub or_else_assoc : {B : Type 0} (o p q : Option B) → or_else o (or_else p q) ≡ or_else (or_else o p) q
or_else_assoc None p q = refl
or_else_assoc (Some x) p q = refl

first_append : {A B : Type 0} (f : ℕ → A → Option B) (n : ℕ) (xs ys : List A)
    → first_from f n (xs ++ ys) ≡ or_else (first_from f n xs) (first_from f (n + length xs) ys)
first_append {A = A} f n [] ys = let same : n ≡ n + length {A = A} [] = omega arith in ap (λ (k : ℕ). first_from f k ys) same
first_append f n (x ∷ xs) ys =
    let behind : n + 1 + length xs ≡ n + length (x ∷ xs) = omega arith in
    ap (or_else (f n x)) (first_append f (n + 1) xs ys)
    ∙ or_else_assoc (f n x) (first_from f (n + 1) xs) (first_from f (n + 1 + length xs) ys)
    ∙ ap (λ (k : ℕ). or_else (or_else (f n x) (first_from f (n + 1) xs)) (first_from f k ys)) behind

module _ {A B : Type 0} (found : ℕ → A → Option B) (xs : List A) where
  abbrev part : ℕ → ℕ → Option B
  part from count = first_from found from (take count (drop from xs))

  -- of two parts that stand side by side, the first that has one
  two_parts : (from a b middle n : ℕ) → from + a ≤ length xs → middle ≡ from + a → n ≡ a + b
      → or_else (part from a) (part middle b) ≡ part from n
  two_parts from a b middle n within middle_is n_is =
      let front : List A = take a (drop from xs) in
      let long : length front ≡ a = length-take-le a (drop from xs) (omega (arith, within, length-drop from xs)) in
      let place : middle ≡ from + length front = omega (arith, middle_is, long) in
      ap (λ (k : ℕ). or_else (part from a) (first_from found k (take b (drop middle xs)))) place
      ∙ ap (λ (k : ℕ). or_else (first_from found from front) (first_from found (from + length front) (take b (drop k xs)))) middle_is
      ∙ sym (first_append found from front (take b (drop (from + a) xs)))
      ∙ ap (first_from found from) (sym (side_by_side from a b xs))
      ∙ ap (part from) (sym n_is)

  -- what is found in both parts together
  pub found_in_both : (from a b middle n : ℕ) (x y z : Option B) → x ≡ part from a → y ≡ part middle b → z ≡ or_else x y
      → from + a ≤ length xs → middle ≡ from + a → n ≡ a + b → z ≡ part from n
  found_in_both from a b middle n x y z first_is second_is both within middle_is n_is =
      both ∙ ap (λ (o : Option B). or_else o y) first_is ∙ ap (or_else (part from a)) second_is ∙ two_parts from a b middle n within middle_is n_is

  -- of all elements
  pub whole_part : (n : ℕ) → n ≡ length xs → part 0 n ≡ first found xs
  whole_part n e = ap (first_from found 0) (ap (λ (k : ℕ). take k xs) e ∙ take_whole xs)

  module _ (k m n : ℕ) (x : A) (here : k < length xs) (is : x ≡ get_or xs k x) (one : m ≡ suc n) (all : Option B) (rest : part k m ≡ all) where
    next_part : part k m ≡ or_else (found k x) (part (k + 1) n)
    next_part =
        ap (λ (j : ℕ). first_from found k (take j (drop k xs))) one
        ∙ ap (λ (l : List A). first_from found k (take (suc n) l)) (from_here xs k x here)
        ∙ ap (λ (y : A). or_else (found k y) (part (k + 1) n)) (sym is)

    -- nothing is found at the next element, or what is found
    pub nothing_here : found k x ≡ None → part (k + 1) n ≡ all
    nothing_here none = sym (next_part ∙ ap (λ (o : Option B). or_else o (part (k + 1) n)) none) ∙ rest

    pub found_here : (y : B) → found k x ≡ Some y → Some y ≡ all
    found_here y some = sym (next_part ∙ ap (λ (o : Option B). or_else o (part (k + 1) n)) some) ∙ rest

  -- no element is left
  pub nothing_left : (k m : ℕ) (all : Option B) → m ≡ 0 → part k m ≡ all → None ≡ all
  nothing_left k m all none rest = sym (ap (part k) none) ∙ rest
