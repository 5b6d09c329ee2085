-- Rows that start one after another.
use Rattle.std.proofs.Common.{arith, ◌≡◌, ◌<◌, ◌+◌, ◌∙◌, ap, ap₂, sym, suc, ℕ, List, [], ◌∷◌, ◌++◌, map, length, drop, get_or, append_assoc}
use Rattle.std.proofs.Math.Seq.{drop-cons}
use Rattle.spec_model.specs.Lists.{numbered}

-- one more of those that are made of the items of a list with their numbers
pub one_more : {A B C : Type 0} (g : C → A) (h : ℕ × B → C) (made more : List A) (a : A) (xs : List B) (place : ℕ) (x : B)
    → more ≡ made ++ a ∷ [] → a ≡ g (h (place + 1, x)) → x ≡ get_or xs place x → place < length xs
    → more ++ map g (map h (numbered (place + 1 + 1) (drop (place + 1) xs))) ≡ made ++ map g (map h (numbered (place + 1) (drop place xs)))
one_more g h made more a xs place x pushed is at lt =
    let rest = map g (map h (numbered (place + 1 + 1) (drop (place + 1) xs))) in
    let next : suc place ≡ place + 1 = omega arith in
    ap (λ m. m ++ rest) pushed ∙ append_assoc made (a ∷ []) rest
    ∙ ap (λ m. made ++ m)
    (ap (λ y. y ∷ rest) is ∙ sym (ap (λ l. map g (map h (numbered (place + 1) l))) (drop-cons xs place x lt ∙ ap₂ (λ y k. y ∷ drop k xs) (sym at) next)))
