-- What two groups find first is the lesser of what each finds first.
use Rattle.std.proofs.Common.{◌≡◌, ◌≤◌, ◌+◌, ℕ, zero, refl, ap, ◌∙◌, arith, Bool, true, false, List, [], ◌∷◌, Option, Some, None}
use Rattle.std.proofs.lemmas.Bool.Decides.{nat_tests}
use Rattle.std.specs.Prelude.{nat_lt, ◌==◌}
use Rattle.std.specs.declared.cmp.Ordering.{Ordering}
use Rattle.std.specs.Ordering.{is_gt}
use Rattle.spec_model.specs.Lists.{or_else}
use Rattle.law_catalog_rows.specs.Least.{lesser_of}
use Rattle.spec_verify.specs.First.{first_from}
use Rattle.spec_verify.specs.Groups.{Found, found_at, first_found, found_cmp}

-- nothing is found before place n
abbrev NotBefore : {B : Type 0} → ℕ → Option (Found B) → Type 0
NotBefore n None = Unit {0}
NotBefore n (Some p) = n ≤ p.0

later : {B : Type 0} (n : ℕ) (a : Option B) (r : Option (Found B)) → NotBefore (n + 1) r → NotBefore n (or_else (found_at n a) r)
later n (Some b) r h = omega arith
later n None None h = tt
later n None (Some p) h = omega (arith, h)

module _ {B : Type 0} (cmp : B → B → Ordering) where
  left : (n : ℕ) (a : B) (r : Option (Found B)) → NotBefore (n + 1) r → Some (n, a) ≡ lesser_of (found_cmp cmp) (Some (n, a)) r
  left n a None h = refl
  left n a (Some p) h = let is : nat_lt n p.0 ≡ true = grind (arith, nat_tests, h) in rw is refl

  right : (n : ℕ) (b : B) (r : Option (Found B)) → NotBefore (n + 1) r → Some (n, b) ≡ lesser_of (found_cmp cmp) r (Some (n, b))
  right n b None h = refl
  right n b (Some p) h =
      let no : nat_lt p.0 n ≡ false = grind (arith, nat_tests, h) in
      let other : (p.0 == n) ≡ false = grind (arith, nat_tests, h) in
      rw (no, other) refl

  both : (n : ℕ) (a b : B) → found_at n (lesser_of cmp (Some a) (Some b)) ≡ lesser_of (found_cmp cmp) (Some (n, a)) (Some (n, b))
  both n a b = here (is_gt (cmp a b)) refl
    where
      no : nat_lt n n ≡ false
      no = grind (arith, nat_tests)

      is : (n == n) ≡ true
      is = grind (arith, nat_tests)

      here : (g : Bool) → is_gt (cmp a b) ≡ g → found_at n (lesser_of cmp (Some a) (Some b)) ≡ lesser_of (found_cmp cmp) (Some (n, a)) (Some (n, b))
      here true e = rw (no, is, e) refl
      here false e = rw (no, is, e) refl

  one_of : (a b : B) → (c : B) × (lesser_of cmp (Some a) (Some b) ≡ Some c)
  one_of a b = here (is_gt (cmp a b)) refl
    where
      here : (g : Bool) → is_gt (cmp a b) ≡ g → (c : B) × (lesser_of cmp (Some a) (Some b) ≡ Some c)
      here true e = (b, rw e refl)
      here false e = (a, rw e refl)

  or_some : (n : ℕ) (b : B) (o : Option B) (r : Option (Found B)) → o ≡ Some b → or_else (found_at n o) r ≡ found_at n o
  or_some n b o r e = rw e refl

  step : (n : ℕ) (a b : Option B) (p q : Option (Found B)) → NotBefore (n + 1) p → NotBefore (n + 1) q
      → or_else (found_at n (lesser_of cmp a b)) (lesser_of (found_cmp cmp) p q) ≡ lesser_of (found_cmp cmp) (or_else (found_at n a) p) (or_else (found_at n b) q)
  step n None None p q lp lq = refl
  step n (Some a) None p q lp lq = left n a q lq
  step n None (Some b) p q lp lq = right n b p lp
  step n (Some a) (Some b) p q lp lq =
      let c = one_of a b in
      or_some n c.0 (lesser_of cmp (Some a) (Some b)) (lesser_of (found_cmp cmp) p q) c.1 ∙ both n a b

  module _ {A : Type 0} where
    abbrev from : (ℕ → A → Option B) → ℕ → List A → Option (Found B)
    from f n xs = first_from (λ k x. found_at k (f k x)) n xs

    not_before : (f : ℕ → A → Option B) (n : ℕ) (xs : List A) → NotBefore n (from f n xs)
    not_before f n [] = tt
    not_before f n (x ∷ xs) = later n (f n x) (from f (n + 1) xs) (not_before f (n + 1) xs)

    from_groups : (f g : ℕ → A → Option B) (n : ℕ) (xs : List A) → from (λ k x. lesser_of cmp (f k x) (g k x)) n xs ≡ lesser_of (found_cmp cmp) (from f n xs) (from g n xs)
    from_groups f g n [] = refl
    from_groups f g n (x ∷ xs) =
        ap (or_else (found_at n (lesser_of cmp (f n x) (g n x)))) (from_groups f g (n + 1) xs)
        ∙ step n (f n x) (g n x) (from f (n + 1) xs) (from g (n + 1) xs) (not_before f (n + 1) xs) (not_before g (n + 1) xs)

    pub first_of_groups : (f g : ℕ → A → Option B) (xs : List A) → first_found (λ k x. lesser_of cmp (f k x) (g k x)) xs ≡ lesser_of (found_cmp cmp) (first_found f xs) (first_found g xs)
    first_of_groups f g xs = from_groups f g zero xs
