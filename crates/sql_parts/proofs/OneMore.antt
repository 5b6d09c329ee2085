-- A sorted list with one item more, and with one less.
use Rattle.std.proofs.Common.{◌≡◌, ◌<◌, ◌≤◌, ◌+◌, ℕ, zero, suc, refl, sym, ap, ◌∙◌, Bool, true, false, cond, List, [], ◌∷◌, ◌++◌, length, map, get_or, arith, is_lt}
use Rattle.std.specs.Prelude.{not, if◌then◌else◌}
use Rattle.std.specs.List.{AllByRecursion, filter, insert, remove, prefix_len}
use Rattle.std.specs.List.Sorted.{IsPartitionedBy, IsPartitionPoint}
use Rattle.std.specs.Cmp.{IsTotalOrder}
use Rattle.std.specs.Ordering.{is_gt, ordering_reverse}
use Rattle.std.specs.declared.cmp.Ordering.{Ordering}
use Rattle.std.specs.declared.cmp.Ordering.TheVariants.{Less, Equal, Greater}
use Rattle.std.proofs.lemmas.List.Sorted.{ranks_by, sorted_far}
use Rattle.std.proofs.lemmas.List.Sums.{prefix_len_is}
use Rattle.spec_model.specs.Lists.{inserted, sorted}
use Rattle.sql_parts.proofs.Sorting.{is_sorted}

gt_reversed : (o : Ordering) → is_gt (ordering_reverse o) ≡ is_lt o
gt_reversed Less = refl
gt_reversed Equal = refl
gt_reversed Greater = refl

less_is : (o : Ordering) → is_lt o ≡ true → o ≡ Less
less_is Less is = refl
less_is Equal is = absurd cc
less_is Greater is = absurd cc

one_up : (n : ℕ) → 1 + n ≡ suc n
one_up n = omega arith

module _ {A : Type 0} (cmp : A → A → Ordering) (total : IsTotalOrder cmp) where
  abbrev pub before : A → A → Bool
  before x y = is_lt (cmp y x)

  -- how many come before x
  abbrev pub place_in : A → List A → ℕ
  place_in x ys = prefix_len (before x) ys

  is_behind : (x y : A) → is_gt (cmp x y) ≡ before x y
  is_behind x y = ap is_gt (total.antisymm x y) ∙ gt_reversed (cmp y x)

  insert_by : (x y : A) (ys : List A) (b : Bool) (n : ℕ) (zs : List A) → zs ≡ insert ys n x
      → (if b then y ∷ zs else x ∷ y ∷ ys) ≡ insert (y ∷ ys) (cond b (1 + n) 0) x
  insert_by x y ys true n zs e = rw (one_up n) (ap (λ l. y ∷ l) e)
  insert_by x y ys false n zs e = refl

  pub inserted_at : (x : A) (ys : List A) → inserted cmp x ys ≡ insert ys (place_in x ys) x
  inserted_at x [] = refl
  inserted_at x (y ∷ ys) =
      rw (is_behind x y) (insert_by x y ys (before x y) (place_in x ys) (inserted cmp x ys) (inserted_at x ys))

  equal_itself : (o : Ordering) → o ≡ ordering_reverse o → is_lt o ≡ false
  equal_itself Less e = absurd cc
  equal_itself Equal e = refl
  equal_itself Greater e = absurd cc

  not_before_itself : (x : A) → before x x ≡ false
  not_before_itself x = equal_itself (cmp x x) (total.antisymm x x)

  -- x is counted in no list
  pub place_there : (x : A) (ys : List A) → place_in x (inserted cmp x ys) ≡ place_in x ys
  place_there x [] = rw (not_before_itself x) refl
  place_there x (y ∷ ys) = rw (is_behind x y) (by (before x y) refl (place_there x ys))
    where
      by : (b : Bool) → before x y ≡ b → place_in x (inserted cmp x ys) ≡ place_in x ys
          → place_in x (if b then y ∷ inserted cmp x ys else x ∷ y ∷ ys) ≡ cond b (1 + place_in x ys) 0
      by true e rest = rw e (ap (λ n. 1 + n) rest)
      by false e rest = rw (not_before_itself x) refl

  pub removed_at : (x : A) (ys : List A) → remove (inserted cmp x ys) (place_in x ys) ≡ ys
  removed_at x [] = refl
  removed_at x (y ∷ ys) = rw (is_behind x y) (by (before x y) (removed_at x ys))
    where
      by : (b : Bool) → remove (inserted cmp x ys) (place_in x ys) ≡ ys
          → remove (if b then y ∷ inserted cmp x ys else x ∷ y ∷ ys) (cond b (1 + place_in x ys) 0) ≡ y ∷ ys
      by true rest = rw (one_up (place_in x ys)) (ap (λ l. y ∷ l) rest)
      by false rest = refl

  pub place_within : (x : A) (ys : List A) → place_in x ys < length (inserted cmp x ys)
  place_within x [] = omega arith
  place_within x (y ∷ ys) = rw (is_behind x y) (by (before x y) (place_within x ys))
    where
      by : (b : Bool) → place_in x ys < length (inserted cmp x ys)
          → cond b (1 + place_in x ys) 0 < length (if b then y ∷ inserted cmp x ys else x ∷ y ∷ ys)
      by true rest = omega (arith, rest)
      by false rest = omega arith

  -- ---- two insertions

  reversed_is : (x y : A) (o : Ordering) → cmp x y ≡ o → cmp y x ≡ ordering_reverse o
  reversed_is x y o e = total.antisymm y x ∙ ap ordering_reverse e

  -- a is behind y, and x isn't
  behind_by : (a x y : A) (o : Ordering) → cmp x y ≡ o → is_gt o ≡ false → cmp y a ≡ Less → cmp x a ≡ Less
  behind_by a x y Less e f less = total.trans x y a e less
  behind_by a x y Equal e f less = total.congr x y a e ∙ less
  behind_by a x y Greater e f less = absurd cc

  greater_is : (o : Ordering) → is_gt o ≡ true → o ≡ Greater
  greater_is Less e = absurd cc
  greater_is Equal e = absurd cc
  greater_is Greater e = refl

  less_of : (a y : A) → is_gt (cmp a y) ≡ true → cmp y a ≡ Less
  less_of a y e = reversed_is a y Greater (greater_is (cmp a y) e)

  greater_of : (a x : A) → cmp x a ≡ Less → is_gt (cmp a x) ≡ true
  greater_of a x e = ap is_gt (reversed_is x a Less e)

  one_greater : (o : Ordering) → (o ≡ Equal → ⊥) → is_gt (ordering_reverse o) ≡ not (is_gt o)
  one_greater Less apart = refl
  one_greater Equal apart = absurd (apart refl)
  one_greater Greater apart = refl

  module _ (a x : A) (apart : cmp a x ≡ Equal → ⊥) where
    in_turn : (y : A) (ys : List A) (r : Bool) → is_gt (cmp a x) ≡ r → is_gt (cmp a y) ≡ false → is_gt (cmp x y) ≡ false
        → inserted cmp a (x ∷ y ∷ ys) ≡ inserted cmp x (a ∷ y ∷ ys)
    in_turn y ys true e f g =
        let s : is_gt (cmp x a) ≡ false = ap is_gt (total.antisymm x a) ∙ one_greater (cmp a x) apart ∙ ap not e in
        rw (e, s, f) refl
    in_turn y ys false e f g =
        let s : is_gt (cmp x a) ≡ true = ap is_gt (total.antisymm x a) ∙ one_greater (cmp a x) apart ∙ ap not e in
        rw (e, s, g) refl

    pub swapped : (zs : List A) → inserted cmp a (inserted cmp x zs) ≡ inserted cmp x (inserted cmp a zs)
    swapped [] = by (is_gt (cmp a x)) refl
      where
        by : (r : Bool) → is_gt (cmp a x) ≡ r → inserted cmp a (x ∷ []) ≡ inserted cmp x (a ∷ [])
        by true e =
            let s : is_gt (cmp x a) ≡ false = ap is_gt (total.antisymm x a) ∙ one_greater (cmp a x) apart ∙ ap not e in
            rw (e, s) refl
        by false e =
            let s : is_gt (cmp x a) ≡ true = ap is_gt (total.antisymm x a) ∙ one_greater (cmp a x) apart ∙ ap not e in
            rw (e, s) refl
    swapped (y ∷ ys) = by (is_gt (cmp a y)) (is_gt (cmp x y)) refl refl (swapped ys)
      where
        by : (p q : Bool) → is_gt (cmp a y) ≡ p → is_gt (cmp x y) ≡ q
            → inserted cmp a (inserted cmp x ys) ≡ inserted cmp x (inserted cmp a ys)
            → inserted cmp a (if q then y ∷ inserted cmp x ys else x ∷ y ∷ ys) ≡ inserted cmp x (if p then y ∷ inserted cmp a ys else a ∷ y ∷ ys)
        by true true e f rest = rw (e, f) (ap (λ l. y ∷ l) rest)
        by true false e f rest =
            let r : is_gt (cmp a x) ≡ true = greater_of a x (behind_by a x y (cmp x y) refl f (less_of a y e)) in
            rw (r, e, f) refl
        by false true e f rest =
            let s : is_gt (cmp x a) ≡ true = greater_of x a (behind_by x a y (cmp a y) refl e (less_of x y f)) in
            rw (s, e, f) refl
        by false false e f rest = in_turn y ys (is_gt (cmp a x)) refl e f

  pub sorted_more : (xs : List A) (x : A) (ys : List A) → AllByRecursion (λ a. cmp a x ≡ Equal → ⊥) xs
      → sorted cmp (xs ++ x ∷ ys) ≡ inserted cmp x (sorted cmp (xs ++ ys))
  sorted_more [] x ys apart = refl
  sorted_more (a ∷ xs) x ys apart =
      ap (inserted cmp a) (sorted_more xs x ys apart.1) ∙ swapped a x apart.0 (sorted cmp (xs ++ ys))

  -- ---- halving

  -- what passes below what passes
  abbrev pub IsDownward : (A → Bool) → Type 0
  IsDownward p = (x y : A) → is_lt (cmp y x) ≡ false → p y ≡ true → p x ≡ true

  pub parted : (p : A → Bool) → IsDownward p → (xs : List A) → IsPartitionedBy p (sorted cmp xs)
  parted p down xs = λ i j d le lt passes.
      down (get_or (sorted cmp xs) i d) (get_or (sorted cmp xs) j d)
      (sorted_far (λ x y. is_lt (cmp x y)) (ranks_by total (λ x. x)) (sorted cmp xs) (is_sorted cmp total xs) i j d le lt) passes

  before_down : (x y z : A) (o : Ordering) → cmp z y ≡ o → is_lt o ≡ false → is_lt (cmp z x) ≡ true → is_lt (cmp y x) ≡ true
  before_down x y z Less e f less = absurd cc
  before_down x y z Equal e f less = ap is_lt (sym (total.congr z y x e)) ∙ less
  before_down x y z Greater e f less =
      ap is_lt (total.trans y z x (reversed_is z y Greater e) (less_is (cmp z x) less))

  pub before_is_downward : (x : A) → IsDownward (before x)
  before_is_downward x y z le less = before_down x y z (cmp z y) refl le less

-- ---- through what a list is of

map_at : {A B : Type 0} (f : A → B) (zs : List A) (k : ℕ) (d : B) (e : A) → k < length zs → get_or (map f zs) k d ≡ f (get_or zs k e)
map_at f [] k d e inside = absurd (omega (arith, inside))
map_at f (z ∷ zs) zero d e inside = refl
map_at f (z ∷ zs) (suc k) d e inside = map_at f zs k d e (omega (arith, inside))

at_all : {A : Type 0} (P : A → Type 0) (xs : List A) (k : ℕ) (d : A) → k < length xs → AllByRecursion P xs → P (get_or xs k d)
at_all P [] k d inside h = absurd (omega (arith, inside))
at_all P (x ∷ xs) zero d inside h = h.0
at_all P (x ∷ xs) (suc k) d inside h = at_all P xs k d (omega (arith, inside)) h.1

module _ {A B : Type 0} (f : A → B) (p : A → Bool) (q : B → Bool) where
  agree_at : (zs : List A) (k : ℕ) (d : B) (e : A) → AllByRecursion (λ z. q (f z) ≡ p z) zs → k < length zs → q (get_or (map f zs) k d) ≡ p (get_or zs k e)
  agree_at zs k d e agree inside = ap q (map_at f zs k d e inside) ∙ at_all (λ z. q (f z) ≡ p z) zs k e inside agree

  map_length : (zs : List A) → length (map f zs) ≡ length zs
  map_length [] = refl
  map_length (z ∷ zs) = ap suc (map_length zs)

  pub parted_map : (zs : List A) → AllByRecursion (λ z. q (f z) ≡ p z) zs → IsPartitionedBy p zs → IsPartitionedBy q (map f zs)
  parted_map [] agree so = λ i j d le lt passes. absurd (omega (arith, lt))
  parted_map (z ∷ zs) agree so = λ i j d le lt passes.
      let n = map_length (z ∷ zs) in
      let inside : j < length (z ∷ zs) = omega (arith, n, lt) in
      agree_at (z ∷ zs) i d z agree (omega (arith, le, inside))
      ∙ so i j z le inside (sym (agree_at (z ∷ zs) j d z agree inside) ∙ passes)

  pub prefix_map : (zs : List A) → AllByRecursion (λ z. q (f z) ≡ p z) zs → prefix_len q (map f zs) ≡ prefix_len p zs
  prefix_map [] agree = refl
  prefix_map (z ∷ zs) agree = rw agree.0 (ap (λ n. cond (p z) (1 + n) 0) (prefix_map zs agree.1))

pub point_is : {A : Type 0} (p : A → Bool) (xs : List A) (n : ℕ) → n ≤ length xs → IsPartitionPoint (λ x. p x ≡ true) (λ x. p x ≡ false) xs n → n ≡ prefix_len p xs
point_is p [] n within point = omega (arith, within)
point_is p (x ∷ xs) n within point =
    sym (prefix_len_is p (x ∷ xs) n x within (λ k below. point.0 k x (omega arith) below) (λ inside. point.1 n x (omega arith) inside))

-- ---- what passes a test, sorted

module _ {A : Type 0} (cmp : A → A → Ordering) (total : IsTotalOrder cmp) where
  up_to : (x y z : A) (o : Ordering) → cmp x y ≡ o → is_gt o ≡ false → is_gt (cmp y z) ≡ false → is_gt (cmp x z) ≡ false
  up_to x y z Less e f g = by (cmp y z) refl g
    where
      by : (p : Ordering) → cmp y z ≡ p → is_gt p ≡ false → is_gt (cmp x z) ≡ false
      by Less h k = ap is_gt (total.trans x y z e h)
      by Equal h k = ap is_gt (total.antisymm x z ∙ ap ordering_reverse (total.congr z y x (total.antisymm z y ∙ ap ordering_reverse h) ∙ total.antisymm y x ∙ ap ordering_reverse e))
      by Greater h k = absurd cc
  up_to x y z Equal e f g = ap is_gt (total.congr x y z e) ∙ g
  up_to x y z Greater e f g = absurd cc

  -- each is at most those behind it
  abbrev Up : List A → Type 0
  Up [] = Unit {0}
  Up (x ∷ xs) = AllByRecursion (λ y. is_gt (cmp x y) ≡ false) xs × Up xs

  below_all : (x y : A) (ys : List A) → is_gt (cmp x y) ≡ false → AllByRecursion (λ z. is_gt (cmp y z) ≡ false) ys → AllByRecursion (λ z. is_gt (cmp x z) ≡ false) ys
  below_all x y [] le h = tt
  below_all x y (z ∷ zs) le h = (up_to x y z (cmp x y) refl le h.0, below_all x y zs le h.1)

  turned : (x y : A) → is_gt (cmp x y) ≡ true → is_gt (cmp y x) ≡ false
  turned x y gt = ap is_gt (total.antisymm y x) ∙ by (cmp x y) gt
    where
      by : (o : Ordering) → is_gt o ≡ true → is_gt (ordering_reverse o) ≡ false
      by Less h = absurd cc
      by Equal h = absurd cc
      by Greater h = refl

  all_put : (P : A → Type 0) (x : A) (ys : List A) → P x → AllByRecursion P ys → AllByRecursion P (inserted cmp x ys)
  all_put P x [] p h = (p, tt)
  all_put P x (y ∷ ys) p h = by (is_gt (cmp x y)) (all_put P x ys p h.1)
    where
      by : (b : Bool) → AllByRecursion P (inserted cmp x ys) → AllByRecursion P (if b then y ∷ inserted cmp x ys else x ∷ y ∷ ys)
      by true rest = (h.0, rest)
      by false rest = (p, h)

  up_put : (x : A) (ys : List A) → Up ys → Up (inserted cmp x ys)
  up_put x [] h = (tt, tt)
  up_put x (y ∷ ys) h = by (is_gt (cmp x y)) refl (up_put x ys h.1)
    where
      by : (b : Bool) → is_gt (cmp x y) ≡ b → Up (inserted cmp x ys) → Up (if b then y ∷ inserted cmp x ys else x ∷ y ∷ ys)
      by true e rest = (all_put (λ z. is_gt (cmp y z) ≡ false) x ys (turned x y e) h.0, rest)
      by false e rest = ((e, below_all x y ys e h.0), h)

  pub up_sorted : (xs : List A) → Up (sorted cmp xs)
  up_sorted [] = tt
  up_sorted (x ∷ xs) = up_put x (sorted cmp xs) (up_sorted xs)

  put_first : (x : A) (ys : List A) → AllByRecursion (λ y. is_gt (cmp x y) ≡ false) ys → inserted cmp x ys ≡ x ∷ ys
  put_first x [] h = refl
  put_first x (y ∷ ys) h = rw h.0 refl

  all_passing : (P : A → Type 0) (p : A → Bool) (ys : List A) → AllByRecursion P ys → AllByRecursion P (filter p ys)
  all_passing P p [] h = tt
  all_passing P p (y ∷ ys) h = by (p y) (all_passing P p ys h.1)
    where
      by : (b : Bool) → AllByRecursion P (filter p ys) → AllByRecursion P (if b then y ∷ filter p ys else filter p ys)
      by true rest = (h.0, rest)
      by false rest = rest

  module _ (p : A → Bool) where
    put_passing : (x : A) (ys : List A) → Up ys → filter p (inserted cmp x ys) ≡ (if p x then inserted cmp x (filter p ys) else filter p ys)
    put_passing x [] h = refl
    put_passing x (y ∷ ys) h = by (is_gt (cmp x y)) (p x) (p y) refl refl refl (put_passing x ys h.1)
      where
        first : is_gt (cmp x y) ≡ false → inserted cmp x (filter p (y ∷ ys)) ≡ x ∷ filter p (y ∷ ys)
        first le = put_first x (filter p (y ∷ ys)) (all_passing (λ z. is_gt (cmp x z) ≡ false) p (y ∷ ys) (le, below_all x y ys le h.0))

        by : (b c d : Bool) → is_gt (cmp x y) ≡ b → p x ≡ c → p y ≡ d → filter p (inserted cmp x ys) ≡ (if p x then inserted cmp x (filter p ys) else filter p ys)
            → filter p (if b then y ∷ inserted cmp x ys else x ∷ y ∷ ys) ≡ (if p x then inserted cmp x (filter p (y ∷ ys)) else filter p (y ∷ ys))
        by true true true e f g rest =
            let whole : filter p (inserted cmp x ys) ≡ inserted cmp x (filter p ys) = rest ∙ rw f refl in
            rw (f, g, e) (ap (λ l. y ∷ l) whole)
        by true true false e f g rest = rw (f, g) (rest ∙ rw f refl)
        by true false true e f g rest = rw (f, g) (ap (λ l. y ∷ l) (rest ∙ rw f refl))
        by true false false e f g rest = rw (f, g) (rest ∙ rw f refl)
        by false true d e f g rest = rw f (sym (first e))
        by false false d e f g rest = rw f refl

    put_if : (b : Bool) (x : A) (ys zs : List A) → ys ≡ zs → (if b then inserted cmp x ys else ys) ≡ (if b then inserted cmp x zs else zs)
    put_if true x ys zs e = ap (inserted cmp x) e
    put_if false x ys zs e = e

    sorted_if : (b : Bool) (x : A) (ys : List A) → (if b then inserted cmp x (sorted cmp ys) else sorted cmp ys) ≡ sorted cmp (if b then x ∷ ys else ys)
    sorted_if true x ys = refl
    sorted_if false x ys = refl

    pub sorted_passing : (xs : List A) → filter p (sorted cmp xs) ≡ sorted cmp (filter p xs)
    sorted_passing [] = refl
    sorted_passing (x ∷ xs) =
        put_passing x (sorted cmp xs) (up_sorted xs)
        ∙ put_if (p x) x (filter p (sorted cmp xs)) (sorted cmp (filter p xs)) (sorted_passing xs)
        ∙ sorted_if (p x) x (filter p xs)
