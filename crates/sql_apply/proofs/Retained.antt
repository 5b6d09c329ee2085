-- What stays of a list, each item changed.
use Rattle.std.proofs.Common.{◌≡◌, ◌<◌, ◌+◌, ℕ, refl, sym, ap, subst, ◌∙◌, Bool, true, false, cond, List, [], ◌∷◌, ◌++◌, length, get_or, map, take, drop}
use Rattle.std.specs.Prelude.{slice_set}
use Rattle.std.specs.List.{filter}
use Rattle.std.specs.List.Retain.{RetainsInTurn}
use Rattle.std.proofs.lemmas.List.Edits.{map_over_more}
use Rattle.sql_types.specs.declared.version.Table.{Table}
use Rattle.spec_model.specs.Catalog.{Tables, with_versions}
use Rattle.spec_model.specs.Undo.{versions_undone}

one_more : {A : Type 0} (b : Bool) (change : A → A) (x : A) (xs : List A) → cond b (change x ∷ map change xs) (map change xs) ≡ map change (cond b (x ∷ xs) xs)
one_more true change x xs = refl
one_more false change x xs = refl

-- each call answers by the test, changes by a function, and leaves its own state
module _ {S A : Type 0} (R : S → A → Bool → S → A → Type 0) (test : A → Bool) (change : A → A) (s : S)
    (told : (x : A) (b : Bool) (t : S) (y : A) → R s x b t y → (t ≡ s) × (b ≡ test x) × (y ≡ change x)) where
  pub retained : (xs ys : List A) → RetainsInTurn R s xs ys → ys ≡ map change (filter test xs)
  retained [] ys h = h
  retained (x ∷ xs) ys h =
      let said = told x h.0 h.1 h.2 h.3 in
      let rest = retained xs h.4 (subst (λ t. RetainsInTurn R t xs h.4) said.0 h.5) in
      h.6 ∙ (λ i. cond (said.1 i) (said.2 i ∷ rest i) (rest i)) ∙ one_more (test x) change x (filter test xs)

pub undone_more : (tx seq : ℕ) (xs ys : Tables) (i : ℕ) (t new : Table) → i < length xs → t ≡ get_or ys i t → new ≡ with_versions (versions_undone tx seq) (get_or ys i t)
    → ys ≡ map (with_versions (versions_undone tx seq)) (take i xs) ++ drop i xs
    → slice_set ys i new ≡ map (with_versions (versions_undone tx seq)) (take (i + 1) xs) ++ drop (i + 1) xs
undone_more tx seq xs ys i t new inside is made before =
    ap (slice_set ys i) (made ∙ ap (with_versions (versions_undone tx seq)) (sym is)) ∙ map_over_more (with_versions (versions_undone tx seq)) xs ys i t inside before is
