-- Going on by one element: the least of what all show, and the events of a table part by part.
use Rattle.std.proofs.Common.{Bor, ◌≡◌, ◌<◌, ◌+◌, ℕ, zero, suc, arith, refl, sym, subst, ap, ap₂, ◌∙◌, Bool, true, false, cond, List, [], ◌∷◌, ◌++◌, length, map, flat_map, filter, take, drop, get_or, Option, Some, None}
use Rattle.std.proofs.Math.Seq.{drop-cons}
use Rattle.std.proofs.lemmas.List.{map-append}
use Rattle.std.proofs.lemmas.List.Elements.{filter-append, recursion_from_All}
use Rattle.std.specs.List.{All, AllByRecursion, list_all}
use Rattle.std.specs.Prelude.{not, ◌&&◌}
use Rattle.std.specs.declared.cmp.Ordering.{Ordering}
use Rattle.spec_model.specs.Lists.{or_else, numbered}
use Rattle.law_catalog_rows.specs.Least.{lesser, least_from}
use Rattle.spec_verify.specs.First.{first_from}

pub from_here : {A : Type 0} (xs : List A) (k : ℕ) (d : A) → k < length xs → drop k xs ≡ get_or xs k d ∷ drop (k + 1) xs
from_here xs k d lt =
    let one : k + 1 ≡ suc k = omega arith in
    rw one (drop-cons xs k d lt)

module _ {B : Type 0} (cmp : B → B → Ordering) where
  pub least_append : (best : Option B) (xs ys : List B) → least_from cmp best (xs ++ ys) ≡ least_from cmp (least_from cmp best xs) ys
  least_append best [] ys = refl
  least_append best (x ∷ xs) ys = least_append (lesser cmp best x) xs ys

  pub least_step : {A : Type 0} (f : A → List B) (best : Option B) (xs : List A) (k : ℕ) (d : A) → k < length xs
      → least_from cmp best (flat_map f (drop k xs)) ≡ least_from cmp (least_from cmp best (f (get_or xs k d))) (flat_map f (drop (k + 1) xs))
  least_step f best xs k d lt = rw (from_here xs k d lt) (least_append best (f (get_or xs k d)) (flat_map f (drop (k + 1) xs)))

-- a list of all parts is that of each part
pub filter_parts : {A B : Type 0} (p : B → Bool) (f : A → List B) (xs : List A) → filter p (flat_map f xs) ≡ flat_map (λ x. filter p (f x)) xs
filter_parts p f [] = refl
filter_parts p f (x ∷ xs) = filter-append p (f x) (flat_map f xs) ∙ ap (λ ys. filter p (f x) ++ ys) (filter_parts p f xs)

pub map_parts : {A B C : Type 0} (g : B → C) (f : A → List B) (xs : List A) → map g (flat_map f xs) ≡ flat_map (λ x. map g (f x)) xs
map_parts g f [] = refl
map_parts g f (x ∷ xs) = map-append g (f x) (flat_map f xs) ∙ ap (λ ys. map g (f x) ++ ys) (map_parts g f xs)

pub over_map : {A B C : Type 0} (f : B → List C) (g : A → B) (xs : List A) → flat_map f (map g xs) ≡ flat_map (λ x. f (g x)) xs
over_map f g [] = refl
over_map f g (x ∷ xs) = ap (λ ys. f (g x) ++ ys) (over_map f g xs)

-- one element is passed over or it may be the least
pub one_tested : {B : Type 0} (cmp : B → B → Ordering) (has : B → Bool) (best : Option B) (x : B) (xs : List B)
    → least_from cmp best (filter (λ y. not (has y)) (x ∷ xs)) ≡ least_from cmp (cond (has x) best (lesser cmp best x)) (filter (λ y. not (has y)) xs)
one_tested cmp has best x xs = here (has x)
  where
    here : (b : Bool) → least_from cmp best (cond (not b) (x ∷ filter (λ y. not (has y)) xs) (filter (λ y. not (has y)) xs)) ≡ least_from cmp (cond b best (lesser cmp best x)) (filter (λ y. not (has y)) xs)
    here true = refl
    here false = refl

module _ {A C : Type 0} (found : ℕ → A → Option C) (xs : List A) (k : ℕ) (x : A) (here : k < length xs) (is : x ≡ get_or xs k x) where
  first_here : first_from found k (drop k xs) ≡ or_else (found k x) (first_from found (k + 1) (drop (k + 1) xs))
  first_here = ap (first_from found k) (from_here xs k x here) ∙ ap (λ (y : A). or_else (found k y) (first_from found (k + 1) (drop (k + 1) xs))) (sym is)

  -- nothing is found here, or what is found
  pub first_skip : (all : Option C) → found k x ≡ None → first_from found k (drop k xs) ≡ all → first_from found (k + 1) (drop (k + 1) xs) ≡ all
  first_skip all none e = sym (first_here ∙ ap (λ o. or_else o (first_from found (k + 1) (drop (k + 1) xs))) none) ∙ e

  pub first_is_here : (all : Option C) (p : C) → found k x ≡ Some p → first_from found k (drop k xs) ≡ all → Some p ≡ all
  first_is_here all p some e = sym (first_here ∙ ap (λ o. or_else o (first_from found (k + 1) (drop (k + 1) xs))) some) ∙ e

-- what is seen of borrowed ones
pub seen : {A B : Type 0} (f : A → B) (xs : List (Bor A)) → map (λ (x : Bor A). f x.now) xs ≡ map f (map (λ (x : Bor A). x.now) xs)
seen f [] = refl
seen f (x ∷ xs) = ap (λ ys. f x.now ∷ ys) (seen f xs)

pub take_here : {A : Type 0} (xs : List A) (k : ℕ) (d : A) → k < length xs → take (k + 1) xs ≡ take k xs ++ get_or xs k d ∷ []
take_here [] k d lt = absurd (omega (arith, lt))
take_here (x ∷ xs) zero d lt = refl
take_here (x ∷ xs) (suc k) d lt =
    let one : suc k + 1 ≡ suc (k + 1) = omega arith in
    rw one (ap (λ l. x ∷ l) (take_here xs k d (omega (arith, lt))))

pub least_next : {A B : Type 0} (cmp : B → B → Ordering) (f : A → List B) (best next all : Option B) (xs : List A) (k : ℕ) (x : A) → k < length xs → x ≡ get_or xs k x
    → next ≡ least_from cmp best (f x) → least_from cmp best (flat_map f (drop k xs)) ≡ all → least_from cmp next (flat_map f (drop (k + 1) xs)) ≡ all
least_next cmp f best next all xs k x here is next_is e =
    ap (λ b. least_from cmp b (flat_map f (drop (k + 1) xs))) (next_is ∙ ap (λ y. least_from cmp best (f y)) is)
    ∙ sym (least_step cmp f best xs k x here) ∙ e

pub least_filtered : {B : Type 0} (cmp : B → B → Ordering) (p : B → Bool) (best : Option B) (xs ys : List B)
    → least_from cmp best (filter p (xs ++ ys)) ≡ least_from cmp (least_from cmp best (filter p xs)) (filter p ys)
least_filtered cmp p best xs ys = ap (least_from cmp best) (filter-append p xs ys) ∙ least_append cmp best (filter p xs) (filter p ys)

-- nothing is found at the first of what is left
pub first_next : {A C : Type 0} (found : ℕ → A → Option C) (k : ℕ) (x : A) (xs more : List A) (all : Option C) → xs ≡ x ∷ more → found k x ≡ None
    → first_from found k xs ≡ all → first_from found (k + 1) more ≡ all
first_next found k x xs more all e none is = sym (ap (first_from found k) e ∙ ap (λ o. or_else o (first_from found (k + 1) more)) none) ∙ is

pub all_at : {A : Type 0} (P : A → Type 0) (xs : List A) (k : ℕ) (x : A) → All P xs → k < length xs → x ≡ get_or xs k x → P x
all_at P xs k x a here is = by_place P xs k x (recursion_from_All P xs a) here is
  where
    by_place : {A : Type 0} (P : A → Type 0) (xs : List A) (k : ℕ) (x : A) → AllByRecursion P xs → k < length xs → x ≡ get_or xs k x → P x
    by_place P [] k x a here is = absurd (omega (arith, here))
    by_place P (y ∷ ys) zero x a here is = subst P (sym is) a.0
    by_place P (y ∷ ys) (suc k) x a here is = by_place P ys k x a.1 (omega (arith, here)) is

module _ {A R : Type 0} (has : R → Bool) (f : ℕ × A → R) (n : ℕ) (xs : List A) (k : ℕ) (x : A) (here : k < length xs) (is : x ≡ get_or xs k x) where
  all_here : list_all has (map f (numbered n (drop k xs))) ≡ (has (f (n, x)) && list_all has (map f (numbered (n + 1) (drop (k + 1) xs))))
  all_here =
      ap (λ l. list_all has (map f (numbered n l))) (from_here xs k x here)
      ∙ ap (λ y. has (f (n, y)) && list_all has (map f (numbered (n + 1) (drop (k + 1) xs)))) (sym is)

  pub all_goes_on : (all : Bool) → has (f (n, x)) ≡ true → list_all has (map f (numbered n (drop k xs))) ≡ all → list_all has (map f (numbered (n + 1) (drop (k + 1) xs))) ≡ all
  all_goes_on all holds e = sym (all_here ∙ ap (λ b. b && list_all has (map f (numbered (n + 1) (drop (k + 1) xs)))) holds) ∙ e

  pub all_fails : (all : Bool) → has (f (n, x)) ≡ false → list_all has (map f (numbered n (drop k xs))) ≡ all → false ≡ all
  all_fails all fails e = sym (all_here ∙ ap (λ b. b && list_all has (map f (numbered (n + 1) (drop (k + 1) xs)))) fails) ∙ e
