-- The part of a list between two of its fronts: what passes one test comes first, and then what passes another.
use Rattle.std.proofs.Common.{◌≡◌, ◌<◌, ◌≤◌, ◌+◌, ℕ, suc, refl, sym, ap, subst, ◌∙◌, Bool, true, false, cond, List, [], ◌∷◌, length, get_or, take, drop, arith}
use Rattle.std.specs.Prelude.{if◌then◌else◌}
use Rattle.std.specs.List.{AllByRecursion, filter, prefix_len}
use Rattle.std.specs.List.Sorted.{IsPartitionedBy}
use Rattle.std.proofs.lemmas.Bool.{true≢false}

-- what passes stands in front of what doesn't
abbrev pub Front : {A : Type 0} → (A → Bool) → List A → Type 0
Front p [] = Unit {0}
Front p (x ∷ xs) = (p x ≡ false → AllByRecursion (λ y. p y ≡ false) xs) × Front p xs

fail_all : {A : Type 0} (p : A → Bool) (xs : List A) (d : A) → ((j : ℕ) → j < length xs → p (get_or xs j d) ≡ false) → AllByRecursion (λ y. p y ≡ false) xs
fail_all p [] d h = tt
fail_all p (x ∷ xs) d h = (h 0 (omega arith), fail_all p xs d (λ j lt. h (suc j) (omega (arith, lt))))

fails_by : (b c : Bool) → (c ≡ true → b ≡ true) → b ≡ false → c ≡ false
fails_by b true f e = absurd (true≢false (sym (f refl) ∙ e))
fails_by b false f e = refl

pub front : {A : Type 0} (p : A → Bool) (xs : List A) → IsPartitionedBy p xs → Front p xs
front p [] h = tt
front p (x ∷ xs) h = (
  λ fails. fail_all p xs x (λ j lt. fails_by (p x) (p (get_or xs j x)) (λ passes_. h 0 (suc j) x (omega arith) (omega (arith, lt)) passes_) fails),
  front p xs (λ i j d le lt passes_. h (suc i) (suc j) d (omega (arith, le)) (omega (arith, lt)) passes_),
)

-- no more pass the first test than the second
pub fewer : {A : Type 0} (below up : A → Bool) → ((x : A) → below x ≡ true → up x ≡ true) → (xs : List A) → prefix_len below xs ≤ prefix_len up xs
fewer below up both [] = omega arith
fewer below up both (x ∷ xs) = by (below x) refl (fewer below up both xs)
  where
    by : (b : Bool) → below x ≡ b → prefix_len below xs ≤ prefix_len up xs → cond b (1 + prefix_len below xs) 0 ≤ prefix_len up (x ∷ xs)
    by true e le = rw (both x e) (omega (arith, le))
    by false e le = omega arith

module _ {A : Type 0} (below up has : A → Bool) (both : (x : A) → below x ≡ true → up x ≡ true) (is : (x : A) → has x ≡ (if below x then false else up x)) where
  none_pass : (xs : List A) → AllByRecursion (λ y. up y ≡ false) xs → filter has xs ≡ []
  none_pass [] h = refl
  none_pass (x ∷ xs) h = rw (is x) (by (below x) (up x) h.0 (none_pass xs h.1))
    where
      by : (a b : Bool) → b ≡ false → filter has xs ≡ [] → (if (if a then false else b) then x ∷ filter has xs else filter has xs) ≡ []
      by true b e rest = rest
      by false true e rest = absurd cc
      by false false e rest = rest

  first_pass : (xs : List A) → AllByRecursion (λ y. below y ≡ false) xs → Front up xs → take (prefix_len up xs) xs ≡ filter has xs
  first_pass [] h f = refl
  first_pass (x ∷ xs) h f = rw (is x) (by (up x) refl (first_pass xs h.1 f.1))
    where
      by : (b : Bool) → up x ≡ b → take (prefix_len up xs) xs ≡ filter has xs → take (cond b (1 + prefix_len up xs) 0) (x ∷ xs) ≡ (if (if below x then false else up x) then x ∷ filter has xs else filter has xs)
      by true e rest = rw (h.0, e) (subst (λ (n : ℕ). take n (x ∷ xs) ≡ x ∷ filter has xs) {x = suc (prefix_len up xs)} (omega arith) (ap (λ l. x ∷ l) rest))
      by false e rest = rw (h.0, e) (sym (none_pass xs (f.0 e)))

  pub between : (xs : List A) → Front below xs → Front up xs → drop (prefix_len below xs) (take (prefix_len up xs) xs) ≡ filter has xs
  between [] g f = refl
  between (x ∷ xs) g f = by (below x) refl (between xs g.1 f.1)
    where
      by : (b : Bool) → below x ≡ b → drop (prefix_len below xs) (take (prefix_len up xs) xs) ≡ filter has xs
          → drop (cond b (1 + prefix_len below xs) 0) (take (prefix_len up (x ∷ xs)) (x ∷ xs)) ≡ filter has (x ∷ xs)
      by true e rest = rw (both x e, is x, e)
          (subst (λ (n : ℕ). drop n (take (1 + prefix_len up xs) (x ∷ xs)) ≡ filter has xs) {x = suc (prefix_len below xs)} (omega arith)
          (subst (λ (n : ℕ). drop (suc (prefix_len below xs)) (take n (x ∷ xs)) ≡ filter has xs) {x = suc (prefix_len up xs)} (omega arith) rest))
      by false e rest = first_pass (x ∷ xs) (e, g.0 e) f
