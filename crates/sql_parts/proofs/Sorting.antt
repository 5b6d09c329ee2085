-- A list that rises and keeps the order of what ties is the one that insertion sorts.
use Rattle.std.proofs.Common.{◌≡◌, ℕ, zero, suc, ◌<◌, ◌≤◌, ◌+◌, Bool, true, false, cond, List, [], ◌∷◌, map, length, get_or, filter, is_lt, refl, sym, ap, subst, arith, ◌∙◌, inl, inr, suc-le-suc, zero-le, IsSorted}
use denote.Ref.{Bor}
use denote.Param.Members.{Mut}
use Rattle.std.proofs.lemmas.Bool.{cond-true, cond-false, cases_Bool, true≢false}
use Rattle.std.proofs.lemmas.List.Sorted.{ranks_by, sorted_far, IsPermutation-refl, IsPermutation-sym, IsPermutation-cons, IsPermutation-trans, IsPermutation-middle}
use Rattle.std.specs.Prelude.{not, ◌&&◌}
use Rattle.std.specs.Cmp.{IsTotalOrder, IsStrictWeakOrder, on_total}
use Rattle.std.specs.Ordering.{is_eq, is_gt, ordering_reverse, on}
use Rattle.std.specs.List.Sorted.{IsPermutation, ties, IsStable, IsSortedBy, IsStableBy, IsSortedByClosure, IsStableByClosure}
use Rattle.std.specs.Fn.{ComparesAs}
use Rattle.std.specs.declared.cmp.Ordering.{Ordering}
use Rattle.std.specs.declared.cmp.Ordering.TheVariants.{Less, Equal, Greater}
use Rattle.spec_model.specs.Lists.{inserted, sorted}

if_cases : {B : Type 0} (P : B → Type 0) (b : Bool) (x y : B) → (b ≡ true → P x) → (b ≡ false → P y) → P (cond b x y)
if_cases P true x y h k = h refl
if_cases P false x y h k = k refl

kept : {A : Type 0} (p : A → Bool) (y : A) (ys : List A) → p y ≡ true → filter p (y ∷ ys) ≡ y ∷ filter p ys
kept p y ys h = cond-true _ _ _ h

dropped : {A : Type 0} (p : A → Bool) (y : A) (ys : List A) → p y ≡ false → filter p (y ∷ ys) ≡ filter p ys
dropped p y ys h = cond-false _ _ _ h

-- ---- orders

equal_alone : (r : Ordering) → not (is_lt r) && not (is_lt (ordering_reverse r)) ≡ is_eq r
equal_alone Less = refl
equal_alone Equal = refl
equal_alone Greater = refl

is_equal : (r : Ordering) → is_eq r ≡ true → r ≡ Equal
is_equal Less h = absurd (true≢false (sym h))
is_equal Equal h = refl
is_equal Greater h = absurd (true≢false (sym h))

greater_not_less : (r : Ordering) → is_gt r ≡ true → is_lt r ≡ false
greater_not_less Less h = sym h
greater_not_less Equal h = refl
greater_not_less Greater h = refl

turned : (r : Ordering) → is_lt (ordering_reverse r) ≡ is_gt r
turned Less = refl
turned Equal = refl
turned Greater = refl

module _ {A : Type 0} (cmp : A → A → Ordering) (total : IsTotalOrder cmp) where
  abbrev less : A → A → Bool
  less x y = is_lt (cmp x y)

  abbrev tied : A → A → Bool
  tied = ties less

  weak : IsStrictWeakOrder less
  weak = ranks_by total (λ x. x)

  tied_is : (x y : A) → tied x y ≡ is_eq (cmp x y)
  tied_is x y = ap (λ r. not (is_lt (cmp x y)) && not (is_lt r)) (total.antisymm y x) ∙ equal_alone (cmp x y)

  equal_of : (x y : A) → tied x y ≡ true → cmp x y ≡ Equal
  equal_of x y h = is_equal (cmp x y) (sym (tied_is x y) ∙ h)

  tied_of : (x y : A) → cmp x y ≡ Equal → tied x y ≡ true
  tied_of x y h = tied_is x y ∙ ap is_eq h

  -- ---- insertion keeps the order of what ties

  behind : (x c d : A) (ds es : List A) → is_gt (cmp c d) ≡ true → filter (tied x) es ≡ filter (tied x) (c ∷ ds) → filter (tied x) (d ∷ es) ≡ filter (tied x) (c ∷ d ∷ ds)
  behind x c d ds es past same = elim (cases_Bool (tied x d)) [
    | inr without ↦ dropped (tied x) d es without ∙ same ∙ ap (λ l. cond (tied x c) (c ∷ l) l) (sym (dropped (tied x) d ds without))
    | inl with ↦ elim (cases_Bool (tied x c)) [
      | inl both ↦ absurd (true≢false (sym past ∙ ap is_gt (sym (total.congr x c d (equal_of x c both)) ∙ equal_of x d with)))
      | inr only ↦ kept (tied x) d es with ∙ ap (λ l. d ∷ l) (same ∙ dropped (tied x) c ds only) ∙ sym (dropped (tied x) c (d ∷ ds) only ∙ kept (tied x) d ds with)
    ]
  ]

  filter-inserted : (x c : A) (ds : List A) → filter (tied x) (inserted cmp c ds) ≡ filter (tied x) (c ∷ ds)
  filter-inserted x c [] = refl
  filter-inserted x c (d ∷ ds) = if_cases (λ l. filter (tied x) l ≡ filter (tied x) (c ∷ d ∷ ds)) (is_gt (cmp c d)) _ _
      (λ past. behind x c d ds (inserted cmp c ds) past (filter-inserted x c ds))
      (λ stays. refl)

  filter-sorted : (x : A) (cs : List A) → filter (tied x) (sorted cmp cs) ≡ filter (tied x) cs
  filter-sorted x [] = refl
  filter-sorted x (c ∷ cs) = filter-inserted x c (sorted cmp cs) ∙ ap (λ l. cond (tied x c) (c ∷ l) l) (filter-sorted x cs)

  -- ---- insertion makes lists that rise

  abbrev AtLeast : A → List A → Type 0
  AtLeast x [] = Unit {0}
  AtLeast x (y ∷ ys) = (less y x ≡ false) × AtLeast x ys

  abbrev Rises : List A → Type 0
  Rises [] = Unit {0}
  Rises (x ∷ xs) = AtLeast x xs × Rises xs

  AtLeast-below : (x y : A) (ys : List A) → less y x ≡ false → AtLeast y ys → AtLeast x ys
  AtLeast-below x y [] h k = tt
  AtLeast-below x y (z ∷ zs) h k = (weak.chain z y x k.0 h, AtLeast-below x y zs h k.1)

  AtLeast-inserted : (x c : A) (ds : List A) → less c x ≡ false → AtLeast x ds → AtLeast x (inserted cmp c ds)
  AtLeast-inserted x c [] h k = (h, tt)
  AtLeast-inserted x c (d ∷ ds) h k = if_cases (AtLeast x) (is_gt (cmp c d)) _ _ (λ past. (k.0, AtLeast-inserted x c ds h k.1)) (λ stays. (h, k))

  Rises-inserted : (c : A) (ds : List A) → Rises ds → Rises (inserted cmp c ds)
  Rises-inserted c [] h = (tt, tt)
  Rises-inserted c (d ∷ ds) h = if_cases Rises (is_gt (cmp c d)) _ _
      (λ past. (AtLeast-inserted d c ds (greater_not_less (cmp c d) past) h.0, Rises-inserted c ds h.1))
      (λ stays. let up : less d c ≡ false = ap is_lt (total.antisymm d c) ∙ turned (cmp c d) ∙ stays in ((up, AtLeast-below c d ds up h.0), h))

  Rises-sorted : (xs : List A) → Rises (sorted cmp xs)
  Rises-sorted [] = tt
  Rises-sorted (x ∷ xs) = Rises-inserted x (sorted cmp xs) (Rises-sorted xs)

  AtLeast-at : (x : A) (ys : List A) → ((j : ℕ) → j < length ys → less (get_or ys j x) x ≡ false) → AtLeast x ys
  AtLeast-at x [] h = tt
  AtLeast-at x (y ∷ ys) h = (h zero (suc-le-suc zero-le), AtLeast-at x ys (λ j lt. h (suc j) (suc-le-suc lt)))

  Rises-at : (ys : List A) → ((i j : ℕ) (d : A) → i ≤ j → j < length ys → less (get_or ys j d) (get_or ys i d) ≡ false) → Rises ys
  Rises-at [] h = tt
  Rises-at (y ∷ ys) h = (AtLeast-at y ys (λ j lt. h zero (suc j) y zero-le (suc-le-suc lt)), Rises-at ys (λ i j d le lt. h (suc i) (suc j) d (suc-le-suc le) (suc-le-suc lt)))

  -- ---- two lists that rise and agree in what ties with each are one

  found : (z y : A) (zs : List A) (w : A) (ws : List A) → AtLeast z zs → filter (tied y) zs ≡ w ∷ ws → less y z ≡ false
  found z y [] w ws h e = cc
  found z y (u ∷ us) w ws h e = elim (cases_Bool (tied y u)) [
    | inl with ↦ ap is_lt (total.congr y u z (equal_of y u with)) ∙ h.0
    | inr without ↦ found z y us w ws h.1 (sym (dropped (tied y) u us without) ∙ e)
  ]

  tied_itself : (x : A) → tied x x ≡ true
  tied_itself x = tied_of x x (own (cmp x x) (total.antisymm x x))
    where
      own : (r : Ordering) → r ≡ ordering_reverse r → r ≡ Equal
      own Less e = absurd (true≢false (ap is_lt e))
      own Equal e = refl
      own Greater e = absurd (true≢false (ap is_gt e))

  one_list : (ys zs : List A) → Rises ys → Rises zs → ((x : A) → filter (tied x) ys ≡ filter (tied x) zs) → ys ≡ zs
  one_list [] [] left right same = refl
  one_list [] (z ∷ zs) left right same =
      let clash = same z ∙ kept (tied z) z zs (tied_itself z) in cc
  one_list (y ∷ ys) [] left right same =
      let clash = sym (same y) ∙ kept (tied y) y ys (tied_itself y) in cc
  one_list (y ∷ ys) (z ∷ zs) left right same =
      let at_y = kept (tied y) y ys (tied_itself y) in
      let at_z = kept (tied z) z zs (tied_itself z) in
      let up = found z y (z ∷ zs) y _ (weak_itself z, right.0) (sym (same y) ∙ at_y) in
      let down = found y z (y ∷ ys) z _ (weak_itself y, left.0) (same z ∙ at_z) in
      let tie : tied y z ≡ true = λ i. not (up i) && not (down i) in
      let heads = sym at_y ∙ same y ∙ kept (tied y) z zs tie in
      let head : y ≡ z = cc in
      let tails : (x : A) → filter (tied x) ys ≡ filter (tied x) zs =
      λ x. elim (cases_Bool (tied x y)) [
        | inl with ↦
            let both = sym (kept (tied x) y ys with) ∙ same x ∙ kept (tied x) z zs (ap (tied x) (sym head) ∙ with) in cc
        | inr without ↦
            sym (dropped (tied x) y ys without) ∙ same x ∙ dropped (tied x) z zs (ap (tied x) (sym head) ∙ without)
      ] in
      ap (λ w. w ∷ ys) head ∙ ap (λ l. z ∷ l) (one_list ys zs left.1 right.1 tails)
    where
      weak_itself : (x : A) → less x x ≡ false
      weak_itself x = ap is_lt (equal_of x x (tied_itself x))

  -- ---- what `sorted` gives

  adjacent : (ys : List A) → Rises ys → (k : ℕ) (d : A) → suc k < length ys
      → less (get_or ys (suc k) d) (get_or ys k d) ≡ false
  adjacent [] h k d within = absurd (omega (arith, within))
  adjacent (y ∷ []) h k d within = absurd (omega (arith, within))
  adjacent (y ∷ z ∷ zs) h zero d within = h.0.0
  adjacent (y ∷ z ∷ zs) h (suc k) d within = adjacent (z ∷ zs) h.1 k d (omega (arith, within))

  pub is_sorted : (xs : List A) → IsSorted cmp (sorted cmp xs)
  is_sorted xs =
      let ys = sorted cmp xs in
      λ k d from within.
      subst (λ (n : ℕ). less (get_or ys n d) (get_or ys k d) ≡ false) {x = suc k} {y = k + 1} (omega arith)
      (adjacent ys (Rises-sorted xs) k d (omega (arith, within)))

  pub is_stable : (xs : List A) → IsStable cmp xs (sorted cmp xs)
  is_stable xs = λ x. filter-sorted x xs

  exchanged : (x y : A) (ys : List A) → IsPermutation (x ∷ y ∷ ys) (y ∷ x ∷ ys)
  exchanged x y ys =
      IsPermutation-sym (y ∷ x ∷ ys) (x ∷ y ∷ ys) (IsPermutation-middle (y ∷ []) x ys)

  one_put : (x : A) (ys : List A) → IsPermutation (x ∷ ys) (inserted cmp x ys)
  one_put x [] = IsPermutation-refl (x ∷ [])
  one_put x (y ∷ ys) = if_cases (IsPermutation (x ∷ y ∷ ys)) (is_gt (cmp x y)) _ _
      (λ past. IsPermutation-trans (x ∷ y ∷ ys) (y ∷ x ∷ ys) (y ∷ inserted cmp x ys) (exchanged x y ys)
      (IsPermutation-cons y (x ∷ ys) (inserted cmp x ys) (one_put x ys)))
      (λ stays. IsPermutation-refl (x ∷ y ∷ ys))

  pub same_elements : (xs : List A) → IsPermutation xs (sorted cmp xs)
  same_elements [] = IsPermutation-refl []
  same_elements (x ∷ xs) =
      IsPermutation-trans (x ∷ xs) (x ∷ sorted cmp xs) (inserted cmp x (sorted cmp xs))
      (IsPermutation-cons x xs (sorted cmp xs) (same_elements xs)) (one_put x (sorted cmp xs))

  -- what a stable sort gives
  pub sorted_stably : (xs ys : List A) → IsSorted cmp ys → IsStable cmp xs ys → ys ≡ sorted cmp xs
  sorted_stably xs ys up stable = one_list ys (sorted cmp xs) (Rises-at ys (sorted_far less weak ys up)) (Rises-sorted xs) (λ x. stable x ∙ sym (filter-sorted x xs))

  -- from the clauses of `sort_by`, where each call answers as cmp does
  pub sorted_from_sort_by : {F : Type 0} {g : Mut F (Bor A × (Bor A × Unit {0})) Ordering} {f : F} (xs ys : List A)
      → IsSortedByClosure g f ys → IsStableByClosure g f xs ys → ComparesAs g less f → ys ≡ sorted cmp xs
  sorted_from_sort_by xs ys up stable compares = sorted_stably xs ys (up less weak compares) (stable less weak compares)

-- ---- sorting by what a function gives

map-if : {A B : Type 0} (f : A → B) (b : Bool) (xs ys : List A) → map f (cond b xs ys) ≡ cond b (map f xs) (map f ys)
map-if f true xs ys = refl
map-if f false xs ys = refl

inserted-map : {A B : Type 0} (f : A → B) (cmp : B → B → Ordering) (x : A) (ys : List A) → map f (inserted (on f cmp) x ys) ≡ inserted cmp (f x) (map f ys)
inserted-map f cmp x [] = refl
inserted-map f cmp x (y ∷ ys) = map-if f (is_gt (cmp (f x) (f y))) _ _ ∙ ap (λ l. cond (is_gt (cmp (f x) (f y))) (f y ∷ l) (f x ∷ f y ∷ map f ys)) (inserted-map f cmp x ys)

pub sorted-map : {A B : Type 0} (f : A → B) (cmp : B → B → Ordering) (xs : List A) → map f (sorted (on f cmp) xs) ≡ sorted cmp (map f xs)
sorted-map f cmp [] = refl
sorted-map f cmp (x ∷ xs) = inserted-map f cmp x (sorted (on f cmp) xs) ∙ ap (inserted cmp (f x)) (sorted-map f cmp xs)

-- what a stable sort by f of each gives, seen through f
pub sorted_by : {A B : Type 0} (f : A → B) (cmp : B → B → Ordering) → IsTotalOrder cmp → (xs ys : List A)
    → IsSortedBy (λ x y. is_lt (cmp (f x) (f y))) ys → IsStableBy (λ x y. is_lt (cmp (f x) (f y))) xs ys → map f ys ≡ sorted cmp (map f xs)
sorted_by f cmp total xs ys up stable = ap (map f) (sorted_stably (on f cmp) (on_total f total) xs ys up stable) ∙ sorted-map f cmp xs
