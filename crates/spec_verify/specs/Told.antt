-- What is told of a sentence over a list: nothing where it holds of each element, and else where it fails
-- first, or of which it fails least.
use Rattle.std.specs.Prelude.{ℕ, ◌≡◌, ◌<◌, List, Option, Some, IfSome, MatchOption, slice_get}
use Rattle.std.specs.List.{AllByRecursion}
use Rattle.std.specs.declared.cmp.Ordering.{Ordering}
use Rattle.std.specs.declared.cmp.Ordering.TheVariants.{Greater}

-- ---- by place

-- it holds of each element at its place, counted from 0
abbrev pub HoldsOfEach : {A : Type 0} → (ℕ → A → Type 0) → List A → Type 0
HoldsOfEach P xs = (k : ℕ) → IfSome (slice_get xs k) (P k)

-- it fails of the element at place k, and holds of each before
pub record FailsFirst {A : Type 0} (P : ℕ → A → Type 0) (xs : List A) (k : ℕ) (x : A) : Type 0 where
  pub there : slice_get xs k ≡ Some x
  pub fails : P k x → ⊥
  pub before : (j : ℕ) → j < k → IfSome (slice_get xs j) (P j)

-- nothing is found where it holds of each, and else what is said of the first of which it fails
abbrev pub TellsFirst : {A B : Type 0}
    → (ℕ → A → Type 0) → (ℕ → A → B → Type 0) → List A → Option B → Type 0
TellsFirst {A} P Says xs found =
    MatchOption found (HoldsOfEach P xs) (λ b. (k : ℕ) × (x : A) × FailsFirst P xs k x × Says k x b)

-- ---- by an order

-- it fails of the element x, and holds of each that is less
pub record FailsLeast {A : Type 0} (cmp : A → A → Ordering) (P : A → Type 0) (xs : List A)
    (x : A) : Type 0 where
  pub place : ℕ
  pub there : slice_get xs place ≡ Some x
  pub fails : P x → ⊥
  pub less : AllByRecursion (λ y. cmp x y ≡ Greater → P y) xs

-- nothing is found where it holds of all, and else what is said of the least of which it fails
abbrev pub TellsLeast : {A B : Type 0}
    → (A → A → Ordering) → (A → Type 0) → (A → B → Type 0) → List A → Option B → Type 0
TellsLeast {A} cmp P Says xs found =
    MatchOption found (AllByRecursion P xs) (λ b. (x : A) × FailsLeast cmp P xs x × Says x b)
