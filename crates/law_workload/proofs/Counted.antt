-- What is counted and summed over versions, as one starts and one ends.
use Rattle.std.proofs.Common.{◌≡◌, ◌∙◌, ℕ, ◌+◌, Bool, true, false, List, [], ◌∷◌, length, map, refl, ap, cond, arith}
use Rattle.std.specs.Prelude.{if◌then◌else◌, sum}
use Rattle.std.specs.List.{filter}
use Rattle.std.specs.declared.cmp.Ordering.{Ordering}
use Rattle.std.proofs.lemmas.List.Sums.{sum_by-cons}
use Rattle.std.specs.Ordering.{is_gt}
use Rattle.sql_types.specs.declared.version.Version.{Version}
use Rattle.spec_model.specs.Lists.{inserted}
use Rattle.spec_model.specs.Rows.{EventId, same_event, with_end}

-- ---- sums over a list

abbrev pub over : {A : Type 0} → (A → ℕ) → List A → ℕ
over f [] = 0
over f (x ∷ xs) = f x + over f xs

abbrev pub where_ : Bool → ℕ → ℕ
where_ true n = n
where_ false n = 0

step_count : {A : Type 0} (p : Bool) (x : A) (xs : List A) (n : ℕ) → length xs ≡ n → length (cond p (x ∷ xs) xs) ≡ where_ p 1 + n
step_count true x xs n h = omega (arith, h)
step_count false x xs n h = omega (arith, h)

pub count_is : {A : Type 0} (p : A → Bool) (xs : List A) → length (filter p xs) ≡ over (λ x. where_ (p x) 1) xs
count_is p [] = refl
count_is p (x ∷ xs) = step_count (p x) x (filter p xs) (over (λ x. where_ (p x) 1) xs) (count_is p xs)

step_sum : {A : Type 0} (f : A → ℕ) (p : Bool) (x : A) (xs : List A) (n : ℕ) → sum (map f xs) ≡ n → sum (map f (cond p (x ∷ xs) xs)) ≡ where_ p (f x) + n
step_sum f true x xs n h = sum_by-cons (λ m. m) (f x) (map f xs) ∙ ap (λ m. f x + m) h
step_sum f false x xs n h = omega (arith, h)

pub sum_is : {A : Type 0} (f : A → ℕ) (p : A → Bool) (xs : List A) → sum (map f (filter p xs)) ≡ over (λ x. where_ (p x) (f x)) xs
sum_is f p [] = refl
sum_is f p (x ∷ xs) = step_sum f (p x) x (filter p xs) (over (λ x. where_ (p x) (f x)) xs) (sum_is f p xs)

-- ---- one more in its place

swapped : (b : Bool) (x y m n : ℕ) → m ≡ x + n → cond b (y + m) (x + (y + n)) ≡ x + (y + n)
swapped true x y m n h = omega (arith, h)
swapped false x y m n h = refl

over_cond : {A : Type 0} (f : A → ℕ) (b : Bool) (xs ys : List A) → over f (cond b xs ys) ≡ cond b (over f xs) (over f ys)
over_cond f true xs ys = refl
over_cond f false xs ys = refl

pub over_inserted : {A : Type 0} (f : A → ℕ) (cmp : A → A → Ordering) (x : A) (xs : List A) → over f (inserted cmp x xs) ≡ f x + over f xs
over_inserted f cmp x [] = refl
over_inserted f cmp x (y ∷ ys) =
    over_cond f (is_gt (cmp x y)) (y ∷ inserted cmp x ys) (x ∷ y ∷ ys)
    ∙ swapped (is_gt (cmp x y)) (f x) (f y) (over f (inserted cmp x ys)) (over f ys) (over_inserted f cmp x ys)

none_first : {A : Type 0} (p : Bool) (x : A) (xs : List A) → cond p (x ∷ xs) xs ≡ [] → p ≡ false
none_first true x xs h = cc
none_first false x xs h = refl

pub none_later : {A : Type 0} (p : Bool) (x : A) (xs : List A) → cond p (x ∷ xs) xs ≡ [] → xs ≡ []
none_later true x xs h = cc
none_later false x xs h = h

filter_cond : {A : Type 0} (p : A → Bool) (b : Bool) (xs ys zs : List A) → filter p xs ≡ zs → filter p ys ≡ zs → filter p (cond b xs ys) ≡ zs
filter_cond p true xs ys zs h k = h
filter_cond p false xs ys zs h k = k

-- the one that passes, among those that don't
pub only_inserted : {A : Type 0} (p : A → Bool) (cmp : A → A → Ordering) (x : A) (xs : List A) → p x ≡ true → filter p xs ≡ [] → filter p (inserted cmp x xs) ≡ x ∷ []
only_inserted p cmp x [] is none = rw is refl
only_inserted p cmp x (y ∷ ys) is none =
    let other = none_first (p y) y (filter p ys) none in
    let rest = none_later (p y) y (filter p ys) none in
    filter_cond p (is_gt (cmp x y)) (y ∷ inserted cmp x ys) (x ∷ y ∷ ys) (x ∷ [])
    (rw other (only_inserted p cmp x ys is rest)) (rw (is, other, rest) refl)

-- ---- one that ends

module _ (at start : EventId) where
  abbrev starts : Version → Bool
  starts v = same_event v.start start

  abbrev ends : Version → Version
  ends v = if starts v then with_end at v else v

  unchanged : (p : Bool) (v : Version) (vs ws : List Version) → p ≡ false → vs ≡ ws → cond p (with_end at v) v ∷ vs ≡ v ∷ ws
  unchanged true v vs ws other h = cc
  unchanged false v vs ws other h = ap (λ l. v ∷ l) h

  none_ended : (vs : List Version) → filter starts vs ≡ [] → map ends vs ≡ vs
  none_ended [] h = refl
  none_ended (v ∷ vs) h = unchanged (starts v) v (map ends vs) vs (none_first (starts v) v (filter starts vs) h) (none_ended vs (none_later (starts v) v (filter starts vs) h))

  the_first : (v w : Version) (vs : List Version) → ◌≡◌ {A = List Version} (w ∷ vs) (v ∷ []) → (w ≡ v) × (vs ≡ [])
  the_first v w vs h = (cc, cc)

  one_ended_at : (f : Version → ℕ) (p : Bool) (v w : Version) (vs : List Version) → starts w ≡ p → cond p (w ∷ filter starts vs) (filter starts vs) ≡ v ∷ []
      → (filter starts vs ≡ v ∷ [] → over f (map ends vs) + f v ≡ over f vs + f (with_end at v))
      → f (cond p (with_end at w) w) + over f (map ends vs) + f v ≡ f w + over f vs + f (with_end at v)
  one_ended_at f true v w vs is one again =
      let both = the_first v w (filter starts vs) one in
      let rest : over f (map ends vs) ≡ over f vs = ap (over f) (none_ended vs both.1) in
      let same : f w ≡ f v = ap f both.0 in
      let after : f (with_end at w) ≡ f (with_end at v) = ap (λ u. f (with_end at u)) both.0 in
      omega (arith, rest, same, after)
  one_ended_at f false v w vs is one again = omega (arith, again one)

  -- what is summed over all changes by what changes in the one
  pub one_ended : (f : Version → ℕ) (v : Version) (vs : List Version) → filter starts vs ≡ v ∷ [] → over f (map ends vs) + f v ≡ over f vs + f (with_end at v)
  one_ended f v [] one = cc
  one_ended f v (w ∷ vs) one = one_ended_at f (starts w) v w vs refl one (one_ended f v vs)
