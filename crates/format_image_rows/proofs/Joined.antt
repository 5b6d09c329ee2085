-- The values at ordinals, and then at places.
use Rattle.std.proofs.Common.{◌≡◌, ℕ, suc, refl, ap, sym, ◌∙◌, List, [], ◌∷◌, ◌++◌, map}
use Rattle.std.proofs.lemmas.List.{map-append}

after_map : {A : Type 0} (f : ℕ → A) (ps : List ℕ) → map (λ n. f (suc n)) ps ≡ map f (map suc ps)
after_map f [] = refl
after_map f (p ∷ ps) = ap (λ l. f (suc p) ∷ l) (after_map f ps)

pub joined : {A : Type 0} (f : ℕ → A) (os ps : List ℕ) → map f os ++ map (λ n. f (suc n)) ps ≡ map f (os ++ map suc ps)
joined f os ps = ap (λ l. map f os ++ l) (after_map f ps) ∙ sym (map-append f os (map suc ps))
