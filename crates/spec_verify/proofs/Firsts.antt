-- What is found first is at the first element of which a sentence fails.
use Rattle.std.proofs.Common.{◌≡◌, ◌<◌, ◌+◌, ℕ, zero, suc, refl, sym, subst, arith, List, [], ◌∷◌, Option, Some, None}
use Rattle.std.specs.Prelude.{IfSome, MatchOption, slice_get}
use Rattle.spec_model.specs.Lists.{or_else}
use Rattle.spec_verify.specs.First.{first, first_from}
use Rattle.spec_verify.specs.Told.{HoldsOfEach, FailsFirst, TellsFirst}

module _ {A B : Type 0} (found : ℕ → A → Option B) (P : ℕ → A → Type 0) (Says : ℕ → A → B → Type 0)
    (told : (k : ℕ) (x : A) → MatchOption (found k x) (P k x) (λ b. (P k x → ⊥) × Says k x b)) where
  -- counted from n
  abbrev From : ℕ → List A → Option B → Type 0
  From n xs o = TellsFirst (λ j. P (j + n)) (λ j. Says (j + n)) xs o

  behind : (n k : ℕ) → k + (n + 1) ≡ suc k + n
  behind n k = omega arith

  here : (n : ℕ) → n ≡ zero + n
  here n = omega arith

  all_of : (n : ℕ) (x : A) (xs : List A) → P n x → HoldsOfEach (λ j. P (j + (n + 1))) xs → HoldsOfEach (λ j. P (j + n)) (x ∷ xs)
  all_of n x xs p h zero = subst (λ m. P m x) (here n) p
  all_of n x xs p h (suc k) = subst (λ m. IfSome (slice_get xs k) (P m)) (behind n k) (h k)

  before_next : (n : ℕ) (x : A) (xs : List A) (k : ℕ) → P n x → ((j : ℕ) → j < k → IfSome (slice_get xs j) (P (j + (n + 1))))
      → (j : ℕ) → j < suc k → IfSome (slice_get (x ∷ xs) j) (P (j + n))
  before_next n x xs k p h zero lt = subst (λ m. P m x) (here n) p
  before_next n x xs k p h (suc j) lt = subst (λ m. IfSome (slice_get xs j) (P m)) (behind n j) (h j (omega (arith, lt)))

  further : (n : ℕ) (x : A) (xs : List A) (b : B) → P n x → (k : ℕ) (y : A) → FailsFirst (λ j. P (j + (n + 1))) xs k y → Says (k + (n + 1)) y b → From n (x ∷ xs) (Some b)
  further n x xs b p k y f s = (
    suc k,
    y,
    record {
      there = f.there;
      fails = λ q. f.fails (subst (λ m. P m y) (sym (behind n k)) q);
      before = before_next n x xs k p f.before;
    },
    subst (λ m. Says m y b) (behind n k) s,
  )

  at_once : (n : ℕ) (x : A) (xs : List A) (b : B) → (P n x → ⊥) → Says n x b → From n (x ∷ xs) (Some b)
  at_once n x xs b never s = (
    zero,
    x,
    record {
      there = refl;
      fails = λ p. never (subst (λ m. P m x) (sym (here n)) p);
      before = λ j lt. absurd (omega (arith, lt));
    },
    subst (λ m. Says m x b) (here n) s,
  )

  step : (n : ℕ) (x : A) (xs : List A) (o : Option B) → MatchOption o (P n x) (λ b. (P n x → ⊥) × Says n x b) → (r : Option B) → From (n + 1) xs r → From n (x ∷ xs) (or_else o r)
  step n x xs (Some b) q r t = at_once n x xs b q.0 q.1
  step n x xs None p None t = all_of n x xs p t
  step n x xs None p (Some b) t = further n x xs b p t.0 t.1 t.2 t.3

  from_told : (n : ℕ) (xs : List A) → From n xs (first_from found n xs)
  from_told n [] = λ k. tt
  from_told n (x ∷ xs) = step n x xs (found n x) (told n x) (first_from found (n + 1) xs) (from_told (n + 1) xs)

  plain : (k : ℕ) → k + zero ≡ k
  plain k = omega arith

  from_zero : (xs : List A) (o : Option B) → From zero xs o → TellsFirst P Says xs o
  from_zero xs None t = λ k. subst (λ m. IfSome (slice_get xs k) (P m)) (plain k) (t k)
  from_zero xs (Some b) t = (
    t.0,
    t.1,
    record {
      there = t.2.there;
      fails = λ p. t.2.fails (subst (λ m. P m t.1) (sym (plain t.0)) p);
      before = λ j lt. subst (λ m. IfSome (slice_get xs j) (P m)) (plain j) (t.2.before j lt);
    },
    subst (λ m. Says m t.1 b) (plain t.0) t.3,
  )

  pub first_told : (xs : List A) → TellsFirst P Says xs (first found xs)
  first_told xs = from_zero xs (first found xs) (from_told zero xs)
