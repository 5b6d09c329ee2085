-- Tests decide what sentences say.
use Rattle.std.proofs.Common.{◌≡◌, ◌<◌, ◌≤◌, ◌⊎◌, ◌∙◌, inl, inr, ℕ, zero, suc, refl, sym, subst, arith, Bool, true, false, true≢false, List, [], ◌∷◌, length}
use Rattle.std.proofs.lemmas.Bool.Decides.{leb_tells, not_from_Decides}
use Rattle.std.specs.Bool.{Decides}
use Rattle.std.specs.Prelude.{◌||◌, not, nat_le, MatchOption}
use Rattle.std.specs.List.{AllByRecursion, Any, list_any, slice_index_or}
use Rattle.spec_verify.specs.declared.place.Place.{Place}
use Rattle.spec_verify.specs.First.{unless}

pub not_true : (b : Bool) → not b ≡ false → b ≡ true
not_true true e = refl
not_true false e = cc

pub not_false : (b : Bool) → not b ≡ true → b ≡ false
not_false true e = cc
not_false false e = refl

pub Decides-le : (a b : ℕ) → Decides (nat_le a b) (a ≤ b)
Decides-le a b = here (nat_le a b) (leb_tells a b)
  where
    here : (t : Bool) → ((t ≡ true) × (a ≤ b)) ⊎ ((t ≡ false) × (b < a)) → Decides t (a ≤ b)
    here t (inl h) = (λ e. h.1, λ p. h.0)
    here t (inr h) = (λ e. absurd (true≢false (sym e ∙ h.0)), λ p. absurd (omega (arith, p, h.1)))

-- where the test decides a sentence, a place is named exactly where it fails
pub unless_told : {P : Type 0} (test : Bool) (place : Place) → Decides test P → MatchOption (unless test place) P (λ p. (P → ⊥) × (p ≡ place))
unless_told true place d = d.0 refl
unless_told false place d = (λ p. absurd (true≢false (sym (d.1 p))), refl)

-- ---- of some element

module _ {A : Type 0} (P : A → Type 0) where
  pub at_head : (x : A) (xs : List A) → P x → Any P (x ∷ xs)
  at_head x xs p = (zero, x, omega arith, refl, p)

  pub behind : (x : A) (xs : List A) → Any P xs → Any P (x ∷ xs)
  behind x xs a = (suc a.0, a.1, (let lt : a.0 < length xs = a.2 in omega (arith, lt)), a.3, a.4)

  pub one_of : (x : A) (xs : List A) → Any P (x ∷ xs) → P x ⊎ Any P xs
  one_of x xs a = here a.0 a.1 a.2 a.3 a.4
    where
      here : (k : ℕ) (y : A) → k < length (x ∷ xs) → slice_index_or (x ∷ xs) k y ≡ y → P y → P x ⊎ Any P xs
      here zero y lt e p = inl (subst P (sym e) p)
      here (suc k) y lt e p = inr (k, y, omega (arith, lt), e, p)

  pub none_of : Any P [] → ⊥
  none_of a = let lt : a.0 < zero = a.2 in omega (arith, lt)

-- ---- of all, none and some

module _ {A : Type 0} (test : A → Bool) (P : A → Type 0) (each : (x : A) → Decides (test x) (P x)) where
  -- of none
  pub Decides-none : (xs : List A) → Decides (not (list_any test xs)) (AllByRecursion (λ x. P x → ⊥) xs)
  Decides-none [] = (λ e. tt, λ h. refl)
  Decides-none (x ∷ xs) = here (test x) (list_any test xs) (each x) (Decides-none xs)
    where
      here : (a b : Bool) → Decides a (P x) → Decides (not b) (AllByRecursion (λ y. P y → ⊥) xs) → Decides (not (a || b)) ((P x → ⊥) × AllByRecursion (λ y. P y → ⊥) xs)
      here true b d r = (λ e. absurd (true≢false (sym e)), λ h. absurd (h.0 (d.0 refl)))
      here false b d r = (λ e. (not_from_Decides false d refl, r.0 e), λ h. r.1 h.1)

  pub Decides-any : (xs : List A) → Decides (list_any test xs) (Any P xs)
  Decides-any [] = (λ e. absurd (true≢false (sym e)), λ a. absurd (none_of P a))
  Decides-any (x ∷ xs) = here (test x) (list_any test xs) (each x) (Decides-any xs)
    where
      here : (a b : Bool) → Decides a (P x) → Decides b (Any P xs) → Decides (a || b) (Any P (x ∷ xs))
      here true b d r = (λ e. at_head P x xs (d.0 refl), λ h. refl)
      here false b d r = (λ e. behind P x xs (r.0 e), λ h. other (one_of P x xs h))
        where
          other : P x ⊎ Any P xs → b ≡ true
          other (inl p) = absurd (true≢false (sym (d.1 p)))
          other (inr q) = r.1 q
