-- Lists side by side, and lists of what is seen of elements.
use Rattle.std.proofs.Common.{◌≡◌, ◌≢◌, ◌<◌, ℕ, zero, suc, List, [], ◌∷◌, ◌++◌, length, map, slice_set, refl, sym, ap, ◌∙◌, subst, arith}
use mathlib.Core.Option.{some, some-injective, some-ne-none}
use lib.ListN.{get_elem?}
use Rattle.std.proofs.Common.{get_or}
use Rattle.spec_history.specs.Lists.{Each}
use Rattle.server_engine.specs.Standing.{Pairwise}

-- ---- lists side by side

module _ {A B : Type 0} (P : A → B → Type 0) where
  -- what stands beside an element
  pub record Beside (ys : List B) (j : ℕ) (x : A) : Type 0 where
    pub y : B
    pub there : get_elem? ys j ≡ some y
    pub is : P x y

  pub beside : (xs : List A) (ys : List B) → Pairwise P xs ys → (j : ℕ) (x : A) → get_elem? xs j ≡ some x → Beside ys j x
  beside [] ys h j x e = absurd (some-ne-none x (sym e))
  beside (a ∷ as_) [] h j x e = absurd h
  beside (a ∷ as_) (b ∷ bs) h zero x e = record { y = b; there = refl; is = subst (λ (z : A). P z b) (some-injective a x e) h.0 }
  beside (a ∷ as_) (b ∷ bs) h (suc j) x e = let r = beside as_ bs h.1 j x e in record { y = r.y; there = r.there; is = r.is }

  -- and before which element another stands
  pub record Behind (xs : List A) (j : ℕ) (y : B) : Type 0 where
    pub x : A
    pub there : get_elem? xs j ≡ some x
    pub is : P x y

  pub behind : (xs : List A) (ys : List B) → Pairwise P xs ys → (j : ℕ) (y : B) → get_elem? ys j ≡ some y → Behind xs j y
  behind [] [] h j y e = absurd (some-ne-none y (sym e))
  behind [] (b ∷ bs) h j y e = absurd h
  behind (a ∷ as_) [] h j y e = absurd h
  behind (a ∷ as_) (b ∷ bs) h zero y e = record { x = a; there = refl; is = subst (λ (z : B). P a z) (some-injective b y e) h.0 }
  behind (a ∷ as_) (b ∷ bs) h (suc j) y e = let r = behind as_ bs h.1 j y e in record { x = r.x; there = r.there; is = r.is }

  pub both_set : (xs : List A) (ys : List B) → Pairwise P xs ys → (j : ℕ) (x : A) (y : B) → P x y → Pairwise P (slice_set xs j x) (slice_set ys j y)
  both_set [] [] h j x y p = tt
  both_set [] (b ∷ bs) h j x y p = absurd h
  both_set (a ∷ as_) [] h j x y p = absurd h
  both_set (a ∷ as_) (b ∷ bs) h zero x y p = (p, h.1)
  both_set (a ∷ as_) (b ∷ bs) h (suc j) x y p = (h.0, both_set as_ bs h.1 j x y p)

  pub both_last : (xs : List A) (ys : List B) → Pairwise P xs ys → (x : A) (y : B) → P x y → Pairwise P (xs ++ x ∷ []) (ys ++ y ∷ [])
  both_last [] [] h x y p = (p, tt)
  both_last [] (b ∷ bs) h x y p = absurd h
  both_last (a ∷ as_) [] h x y p = absurd h
  both_last (a ∷ as_) (b ∷ bs) h x y p = (h.0, both_last as_ bs h.1 x y p)

  pub as_long : (xs : List A) (ys : List B) → Pairwise P xs ys → length xs ≡ length ys
  as_long [] [] h = refl
  as_long [] (b ∷ bs) h = absurd h
  as_long (a ∷ as_) [] h = absurd h
  as_long (a ∷ as_) (b ∷ bs) h = ap suc (as_long as_ bs h.1)

  -- what is seen of both is the same
  pub same_seen : {C : Type 0} (f : A → C) (g : B → C) → ((x : A) (y : B) → P x y → f x ≡ g y) → (xs : List A) (ys : List B) → Pairwise P xs ys → map f xs ≡ map g ys
  same_seen f g same [] [] h = refl
  same_seen f g same [] (b ∷ bs) h = absurd h
  same_seen f g same (a ∷ as_) [] h = absurd h
  same_seen {C} f g same (a ∷ as_) (b ∷ bs) h = ap (λ (c : C). c ∷ map f as_) (same a b h.0) ∙ ap (λ (cs : List C). g b ∷ cs) (same_seen f g same as_ bs h.1)

-- ---- what is seen of elements

module _ {A B : Type 0} (f : A → B) where
  pub seen_at : (xs : List A) (j : ℕ) (x : A) → get_elem? xs j ≡ some x → get_elem? (map f xs) j ≡ some (f x)
  seen_at [] j x e = absurd (some-ne-none x (sym e))
  seen_at (a ∷ as_) zero x e = ap (λ (z : A). some (f z)) (some-injective a x e)
  seen_at (a ∷ as_) (suc j) x e = seen_at as_ j x e

  -- which element it is of
  pub record Seen (xs : List A) (j : ℕ) (y : B) : Type 0 where
    pub x : A
    pub there : get_elem? xs j ≡ some x
    pub is : f x ≡ y

  pub seen_of : (xs : List A) (j : ℕ) (y : B) → get_elem? (map f xs) j ≡ some y → Seen xs j y
  seen_of [] j y e = absurd (some-ne-none y (sym e))
  seen_of (a ∷ as_) zero y e = record { x = a; there = refl; is = some-injective (f a) y e }
  seen_of (a ∷ as_) (suc j) y e = let r = seen_of as_ j y e in record { x = r.x; there = r.there; is = r.is }

  pub seen_set : (xs : List A) (j : ℕ) (x : A) → map f (slice_set xs j x) ≡ slice_set (map f xs) j (f x)
  seen_set [] j x = refl
  seen_set (a ∷ as_) zero x = refl
  seen_set (a ∷ as_) (suc j) x = ap (λ (ys : List B). f a ∷ ys) (seen_set as_ j x)

  pub seen_last : (xs : List A) (x : A) → map f (xs ++ x ∷ []) ≡ map f xs ++ f x ∷ []
  seen_last [] x = refl
  seen_last (a ∷ as_) x = ap (λ (ys : List B). f a ∷ ys) (seen_last as_ x)

-- ---- each element

module _ {A : Type 0} where
  pub near : (xs : List A) (j : ℕ) (x : A) → get_elem? xs j ≡ some x → j < length xs
  near [] j x e = absurd (some-ne-none x (sym e))
  near (a ∷ as_) zero x e = omega arith
  near (a ∷ as_) (suc j) x e = let l = near as_ j x e in omega (arith, l)

  -- what an index gives is the element there
  pub index_there : (xs : List A) (j : ℕ) (x : A) → j < length xs → x ≡ get_or xs j x → get_elem? xs j ≡ some x
  index_there [] j x l e = absurd (omega (arith, l))
  index_there (a ∷ as_) zero x l e = ap some (sym e)
  index_there (a ∷ as_) (suc j) x l e = index_there as_ j x (omega (arith, l)) e

  pub last_at : (xs : List A) (x : A) → get_elem? (xs ++ x ∷ []) (length xs) ≡ some x
  last_at [] x = refl
  last_at (a ∷ as_) x = last_at as_ x

  -- an element more changes no other place
  pub last_else : (xs : List A) (x : A) (k : ℕ) → k ≢ length xs → get_elem? (xs ++ x ∷ []) k ≡ get_elem? xs k
  last_else [] x zero ne = absurd (ne refl)
  last_else [] x (suc k) ne = refl
  last_else (a ∷ as_) x zero ne = refl
  last_else (a ∷ as_) x (suc k) ne = last_else as_ x k (λ e. ne (ap suc e))

  module _ (P : A → Type 0) where
    pub each_there : (xs : List A) → Each P xs → (j : ℕ) (x : A) → get_elem? xs j ≡ some x → P x
    each_there [] h j x e = absurd (some-ne-none x (sym e))
    each_there (a ∷ as_) h zero x e = subst P (some-injective a x e) h.0
    each_there (a ∷ as_) h (suc j) x e = each_there as_ h.1 j x e

    pub each_set : (xs : List A) → Each P xs → (j : ℕ) (x : A) → P x → Each P (slice_set xs j x)
    each_set [] h j x p = tt
    each_set (a ∷ as_) h zero x p = (p, h.1)
    each_set (a ∷ as_) h (suc j) x p = (h.0, each_set as_ h.1 j x p)

    pub each_last : (xs : List A) → Each P xs → (x : A) → P x → Each P (xs ++ x ∷ [])
    each_last [] h x p = (p, tt)
    each_last (a ∷ as_) h x p = (h.0, each_last as_ h.1 x p)

    -- an element but that in one place
    pub all_there : (xs : List A) → ((k : ℕ) (x : A) → get_elem? xs k ≡ some x → P x) → Each P xs
    all_there [] h = tt
    all_there (a ∷ as_) h = (h 0 a refl, all_there as_ (λ k x e. h (suc k) x e))
