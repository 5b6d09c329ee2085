-- What holds of rows in one order holds of them in each, and of rows with one more.
use Rattle.std.proofs.Common.{◌≡◌, ◌<◌, ◌⊎◌, inl, inr, refl, sym, subst, arith, Bool, true, false, List, [], ◌∷◌, filter}
use Rattle.std.proofs.lemmas.Bool.{eq-eqb, eqb-true, lt-ltb, ltb-true}
use Rattle.std.proofs.lemmas.List.Sorted.{IsPermutation-sym}
use Rattle.std.specs.Prelude.{if◌then◌else◌, ◌&&◌, ◌||◌, ◌==◌, not, nat_lt}
use Rattle.std.specs.List.{AllByRecursion, list_all, list_any}
use Rattle.std.specs.List.Sorted.{IsPermutation}
use Rattle.spec_history.specs.Lists.{Some_of, In}
use Rattle.law_frame.proofs.SameKeys.{and_true}
use Rattle.law_catalog_rows.proofs.Orders.{along_permutation}
use Rattle.spec_rules.specs.Places.{EventPlace, PlacedRow, stands_before}

-- ---- in any order

module _ {A : Type 0} (P : A → Type 0) where
  pub all_in_order : (xs ys : List A) → IsPermutation xs ys → AllByRecursion P ys → AllByRecursion P xs
  all_in_order =
      along_permutation (λ xs ys. AllByRecursion P ys → AllByRecursion P xs) (λ xs h. h) (λ x xs ys f h. (h.0, f h.1)) (λ x y xs h. (h.1.0, (h.0, h.1.1))) (λ xs ys zs f g h. f (g h))

  some_turned : (x y : A) (xs : List A) → Some_of P (y ∷ x ∷ xs) → Some_of P (x ∷ y ∷ xs)
  some_turned x y xs h = elim h [ inl p ↦ inr (inl p) | inr q ↦ elim q [ inl p ↦ inl p | inr r ↦ inr (inr r) ] ]

  pub some_in_order : (xs ys : List A) → IsPermutation xs ys → Some_of P ys → Some_of P xs
  some_in_order =
      along_permutation (λ xs ys. Some_of P ys → Some_of P xs) (λ xs h. h) (λ x xs ys f h. elim h [ inl p ↦ inl p | inr q ↦ inr (f q) ]) some_turned (λ xs ys zs f g h. f (g h))

  pub all_back : (xs ys : List A) → IsPermutation xs ys → AllByRecursion P xs → AllByRecursion P ys
  all_back xs ys h all = all_in_order ys xs (IsPermutation-sym xs ys h) all

pub some_weaker : {A : Type 0} (P Q : A → Type 0) → ((x : A) → P x → Q x) → (xs : List A) → Some_of P xs → Some_of Q xs
some_weaker P Q f [] h = absurd h
some_weaker P Q f (x ∷ xs) h = elim h [ inl p ↦ inl (f x p) | inr q ↦ inr (some_weaker P Q f xs q) ]

pub some_of_all : {A : Type 0} (P Q : A → Type 0) (xs : List A) → Some_of P xs → AllByRecursion Q xs → Some_of (λ x. P x × Q x) xs
some_of_all P Q [] h all = absurd h
some_of_all P Q (x ∷ xs) h all = elim h [ inl p ↦ inl (p, all.0) | inr q ↦ inr (some_of_all P Q xs q all.1) ]

pub in_some : {A : Type 0} (P : A → Type 0) (x : A) (xs : List A) → In x xs → P x → Some_of P xs
in_some P x [] i h = absurd i
in_some P x (y ∷ ys) i h = elim i [ inl e ↦ inl (subst P (sym e) h) | inr more ↦ inr (in_some P x ys more h) ]

-- ---- places

abbrev pub Before : PlacedRow → PlacedRow → Type 0
Before a b = stands_before a.place b.place ≡ true

pub or_cases : (a b : Bool) → (a || b) ≡ true → (a ≡ true) ⊎ (b ≡ true)
or_cases true b e = inl refl
or_cases false b e = inr e

pub before_is : (a b : EventPlace) → stands_before a b ≡ true → (a.0 < b.0) ⊎ ((a.0 ≡ b.0) × (a.1 < b.1))
before_is a b e = elim (or_cases (nat_lt a.0 b.0) ((a.0 == b.0) && nat_lt a.1 b.1) e) [
  | inl lt ↦ inl (ltb-true a.0 b.0 lt)
  | inr p ↦ (let q = and_true (a.0 == b.0) (nat_lt a.1 b.1) p in inr (eqb-true a.0 b.0 q.0, ltb-true a.1 b.1 q.1))
]

or_true : (a : Bool) → (a || true) ≡ true
or_true true = refl
or_true false = refl

pub before_so : (a b : EventPlace) → (a.0 < b.0) ⊎ ((a.0 ≡ b.0) × (a.1 < b.1)) → stands_before a b ≡ true
before_so a b h = elim h [
  | inl lt ↦ rw (lt-ltb a.0 b.0 lt) refl
  | inr p ↦ rw (eq-eqb a.0 b.0 p.0, lt-ltb a.1 b.1 p.1) (or_true (nat_lt a.0 b.0))
]

pub never_both : (a b : EventPlace) → stands_before a b ≡ true → stands_before b a ≡ true → ⊥
never_both a b h k = elim (before_is a b h) [
  | inl lt ↦ elim (before_is b a k) [ inl lu ↦ omega (arith, lt, lu) | inr q ↦ omega (arith, lt, q.0) ]
  | inr p ↦ elim (before_is b a k) [ inl lu ↦ omega (arith, p.0, lu) | inr q ↦ omega (arith, p.1, q.1) ]
]

-- ---- Booleans

pub both : (a b : Bool) → a ≡ true → b ≡ true → (a && b) ≡ true
both a b e f = rw (e, f) refl

pub not_true : (b : Bool) → not b ≡ true → b ≡ false
not_true true e = cc
not_true false e = refl

pub or_second : (a b : Bool) → b ≡ true → (a || b) ≡ true
or_second true b e = refl
or_second false b e = e

pub never_true : (b : Bool) → b ≡ true → b ≡ false → ⊥
never_true true e f = cc
never_true false e f = cc

pub false_or : (a b : Bool) → a ≡ false → b ≡ false → (a || b) ≡ false
false_or a b e f = rw (e, f) refl

first_false : (a b : Bool) → (a || b) ≡ false → (a ≡ false) × (b ≡ false)
first_false true b k = cc
first_false false b k = (refl, k)

-- ---- tests over those that pass another

module _ {A : Type 0} (f p : A → Bool) where
  pub all_of : (xs : List A) → AllByRecursion (λ x. p x ≡ true → f x ≡ true) xs → list_all f (filter p xs) ≡ true
  all_of [] h = refl
  all_of (x ∷ xs) h = here (p x) refl (all_of xs h.1)
    where
      here : (b : Bool) → p x ≡ b → list_all f (filter p xs) ≡ true → list_all f (if b then x ∷ filter p xs else filter p xs) ≡ true
      here true e more = both (f x) (list_all f (filter p xs)) (h.0 e) more
      here false e more = more

  pub some_of : (xs : List A) → Some_of (λ x. (p x ≡ true) × (f x ≡ true)) xs → list_any f (filter p xs) ≡ true
  some_of [] h = absurd h
  some_of (x ∷ xs) h = elim h [ inl k ↦ rw k.0 (rw k.1 refl) | inr more ↦ here (p x) (some_of xs more) ]
    where
      here : (b : Bool) → list_any f (filter p xs) ≡ true → list_any f (if b then x ∷ filter p xs else filter p xs) ≡ true
      here true more = or_second (f x) (list_any f (filter p xs)) more
      here false more = more

  pub none_of : (xs : List A) → list_any f (filter p xs) ≡ false → AllByRecursion (λ x. p x ≡ true → f x ≡ false) xs
  none_of [] e = tt
  none_of (x ∷ xs) e = here (p x) refl e (none_of xs)
    where
      here : (b : Bool) → p x ≡ b → list_any f (if b then x ∷ filter p xs else filter p xs) ≡ false
          → (list_any f (filter p xs) ≡ false → AllByRecursion (λ y. p y ≡ true → f y ≡ false) xs) → AllByRecursion (λ y. p y ≡ true → f y ≡ false) (x ∷ xs)
      here true is k more = let q = first_false (f x) (list_any f (filter p xs)) k in ((λ t. q.0), more q.1)
      here false is k more = ((λ t. absurd (never_true (p x) t is)), more k)

pub none_twice : {A : Type 0} (f p q : A → Bool) (xs : List A) → AllByRecursion (λ x. q x ≡ true → p x ≡ true → f x ≡ false) xs → list_any f (filter p (filter q xs)) ≡ false
none_twice f p q [] h = refl
none_twice f p q (x ∷ xs) h = here (q x) refl (none_twice f p q xs h.1)
  where
    there : (b : Bool) → q x ≡ true → p x ≡ b → list_any f (filter p (filter q xs)) ≡ false → list_any f (if b then x ∷ filter p (filter q xs) else filter p (filter q xs)) ≡ false
    there true e k more = false_or (f x) (list_any f (filter p (filter q xs))) (h.0 e k) more
    there false e k more = more

    here : (b : Bool) → q x ≡ b → list_any f (filter p (filter q xs)) ≡ false → list_any f (filter p (if b then x ∷ filter q xs else filter q xs)) ≡ false
    here true e more = there (p x) e refl more
    here false e more = more
