-- Parts of a list that stand side by side.
use Rattle.std.proofs.Common.{◌≡◌, ◌+◌, ℕ, zero, suc, List, [], ◌∷◌, ◌++◌, length, take, drop, refl, sym, ap, ◌∙◌, arith}
use Rattle.std.proofs.lemmas.List.{drop-drop}

pub empty : {A : Type 0} (n : ℕ) → take {A = A} n [] ≡ []
empty zero = refl
empty (suc n) = refl

taken : {A : Type 0} (a b : ℕ) (xs : List A) → take (a + b) xs ≡ take a xs ++ take b (drop a xs)
taken zero b xs = let none : 0 + b ≡ b = omega arith in ap (λ n. take n xs) none
taken (suc a) b [] = empty (suc a + b) ∙ sym (empty b)
taken (suc a) b (x ∷ xs) =
    let one : suc a + b ≡ suc (a + b) = omega arith in
    ap (λ n. take n (x ∷ xs)) one ∙ ap (λ l. x ∷ l) (taken a b xs)

pub side_by_side : (from a b : ℕ) {A : Type 0} (xs : List A) → take (a + b) (drop from xs) ≡ take a (drop from xs) ++ take b (drop (from + a) xs)
side_by_side from a b xs = taken a b (drop from xs) ∙ ap (λ l. take a (drop from xs) ++ take b l) (drop-drop a from xs)

pub take_whole : {A : Type 0} (xs : List A) → take (length xs) xs ≡ xs
take_whole [] = refl
take_whole (x ∷ xs) = ap (λ l. x ∷ l) (take_whole xs)
