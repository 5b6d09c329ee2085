-- Rows about the columns of a table, the latest first: each says that a column is new, or that one was dropped.
use Rattle.std.proofs.Common.{◌≡◌, ◌≤◌, ◌⊎◌, ℕ, ℤ, inl, inr, refl, sym, ap, subst, ◌∙◌, arith, Bool, true, false, List, [], ◌∷◌, length}
use Rattle.std.proofs.lemmas.Bool.{le-leb}
use Rattle.std.proofs.lemmas.Int.{ints}
use Rattle.std.proofs.lemmas.List.Sorted.{length_permutation}
use Rattle.std.specs.Cmp.{int_ranks}
use Rattle.std.specs.declared.cmp.Ordering.{Ordering}
use Rattle.std.specs.declared.cmp.Ordering.TheVariants.{Less, Equal, Greater}
use Rattle.std.specs.Ordering.{MatchOrdering, int_cmp, int_eq, is_gt, is_lt}
use Rattle.std.specs.Prelude.{◌&&◌, ◌||◌, ◌<ℤ◌, ◌≤ℤ◌, not, nat_le, if◌then◌else◌}
use Rattle.std.specs.List.{AllByRecursion, filter, list_all, list_any}
use Rattle.std.specs.List.Sorted.{IsPermutation}
use Rattle.law_frame.proofs.Alls.{all_weaker, all_both, all_filter}
use Rattle.law_catalog_rows.specs.Latest.{change_of, is_past}
use Rattle.law_catalog_rows.proofs.AnyOrder.{all_in_order, all_three}
use Rattle.law_catalog_rows.proofs.CountingUp.{is_number, isnt_greater, one_number, other_number}
use Rattle.law_catalog_rows.proofs.OneRowMore.{not_itself, not_past, past_where}
use Rattle.law_catalog_rows.proofs.Orders.{filtered}
use Rattle.spec_rules.specs.Places.{PlacedRow}
use Rattle.spec_rules.specs.Rows.{firsts, seconds, is_first_of, item_of, same_thing}
use Rattle.spec_rules.specs.Columns.{columns_are_right, drops_column, is_new_column}
use Rattle.spec_rules.specs.OrderOfChanges.{rises_by_ordinal}
use Rattle.law_rules.proofs.ColumnNames.{all_tests}
use Rattle.law_rules.proofs.InOrder.{or_second}
use Rattle.law_rules.proofs.Orders.{firsts_alike, seconds_alike, pairs_alike}

-- the rows about the column with this ordinal
abbrev pub of_item : ℤ → List PlacedRow → List PlacedRow
of_item n rows = filter (λ (r : PlacedRow). int_eq n (item_of r)) rows

-- a column comes after those with lesser ordinals, and has no lesser change
pub record IsNewRow (rows : List PlacedRow) (r : PlacedRow) : Type 0 where
  pub right : is_new_column r ≡ true
  pub above : AllByRecursion (λ (b : PlacedRow). item_of b <ℤ item_of r) rows
  pub latest : AllByRecursion (λ (b : PlacedRow). change_of 1 b.row ≤ℤ change_of 1 r.row) rows

-- a column that has one row is dropped, by a greater change
pub record IsDropRow (rows : List PlacedRow) (r : PlacedRow) : Type 0 where
  pub first : PlacedRow
  pub one : of_item (item_of r) rows ≡ first ∷ []
  pub drops : drops_column first r ≡ true
  pub latest : AllByRecursion (λ (b : PlacedRow). change_of 1 b.row <ℤ change_of 1 r.row) rows

abbrev pub IsHistory : List PlacedRow → Type 0
IsHistory [] = Unit {0}
IsHistory (r ∷ rows) = (IsNewRow rows r ⊎ IsDropRow rows r) × IsHistory rows

-- ---- lists

module _ {A : Type 0} (p : A → Bool) where
  filter_alike : (q : A → Bool) (xs : List A) → AllByRecursion (λ x. p x ≡ q x) xs → filter p xs ≡ filter q xs
  filter_alike q [] h = refl
  filter_alike q (x ∷ xs) h = rw (h.0, filter_alike q xs h.1) refl

  pub none_pass : (xs : List A) → AllByRecursion (λ x. p x ≡ false) xs → filter p xs ≡ []
  none_pass [] h = refl
  none_pass (x ∷ xs) h = rw h.0 (none_pass xs h.1)

  all_passed : (P : A → Type 0) (xs : List A) → AllByRecursion P (filter p xs) → AllByRecursion (λ x. p x ≡ true → P x) xs
  all_passed P [] h = tt
  all_passed P (x ∷ xs) h = here (p x) refl h (all_passed P xs)
    where
      here : (b : Bool) → p x ≡ b → AllByRecursion P (if b then x ∷ filter p xs else filter p xs) → (AllByRecursion P (filter p xs) → AllByRecursion (λ y. p y ≡ true → P y) xs)
          → AllByRecursion (λ y. p y ≡ true → P y) (x ∷ xs)
      here true e k more = ((λ f. k.0), more k.1)
      here false e k more = ((λ f. absurd (let no : true ≡ false = sym f ∙ e in cc)), more k)

  some_passed : (q : A → Bool) (y : A) (xs : List A) → filter p xs ≡ y ∷ [] → AllByRecursion (λ x. p x ≡ true → q x ≡ true) xs → list_any q xs ≡ true
  some_passed q y [] e h = cc
  some_passed q y (x ∷ xs) e h = here (p x) refl e (λ k. some_passed q y xs k h.1)
    where
      here : (b : Bool) → p x ≡ b → (if b then x ∷ filter p xs else filter p xs) ≡ y ∷ [] → (filter p xs ≡ y ∷ [] → list_any q xs ≡ true) → (q x || list_any q xs) ≡ true
      here true f k more = rw (h.0 f) refl
      here false f k more = or_second (q x) (list_any q xs) (more k)

isnt_lesser : (a b : ℤ) → b ≤ℤ a → is_lt (int_cmp a b) ≡ false
isnt_lesser a b le = here (int_cmp a b) (int_ranks a b)
  where
    here : (o : Ordering) → MatchOrdering o (a <ℤ b) (a ≡ b) (b <ℤ a) → is_lt o ≡ false
    here Less m = absurd (omega (arith, ints, m, le))
    here Equal m = refl
    here Greater m = refl

-- ---- first rows and second rows

module _ (r : PlacedRow) (rows : List PlacedRow) (latest : AllByRecursion (λ (b : PlacedRow). change_of 1 b.row ≤ℤ change_of 1 r.row) rows) where
  still_first : AllByRecursion (λ (b : PlacedRow). is_first_of 1 (r ∷ rows) b ≡ is_first_of 1 rows b) rows
  still_first =
      all_weaker (λ (b : PlacedRow). change_of 1 b.row ≤ℤ change_of 1 r.row) (λ (b : PlacedRow). is_first_of 1 (r ∷ rows) b ≡ is_first_of 1 rows b)
      (λ b le. ap (λ (c : Bool). not (c || list_any (λ (a : PlacedRow). is_past 1 b.row a.row) rows)) (not_past 1 b.row r.row le)) rows latest

  old_firsts : filter (is_first_of 1 (r ∷ rows)) rows ≡ firsts 1 rows
  old_firsts = filter_alike (is_first_of 1 (r ∷ rows)) (is_first_of 1 rows) rows still_first

  old_seconds : filter (λ b. not (is_first_of 1 (r ∷ rows) b)) rows ≡ seconds 1 rows
  old_seconds =
      filter_alike (λ b. not (is_first_of 1 (r ∷ rows) b)) (λ b. not (is_first_of 1 rows b)) rows
      (all_weaker (λ (b : PlacedRow). is_first_of 1 (r ∷ rows) b ≡ is_first_of 1 rows b) (λ (b : PlacedRow). not (is_first_of 1 (r ∷ rows) b) ≡ not (is_first_of 1 rows b)) (λ b e. ap not e) rows still_first)

  abbrev Firsts : List PlacedRow
  Firsts = filter (is_first_of 1 (r ∷ rows)) rows

  abbrev Seconds : List PlacedRow
  Seconds = filter (λ b. not (is_first_of 1 (r ∷ rows) b)) rows

  firsts_with : is_first_of 1 (r ∷ rows) r ≡ true → firsts 1 (r ∷ rows) ≡ r ∷ firsts 1 rows
  firsts_with e = ap (λ (b : Bool). if b then r ∷ Firsts else Firsts) e ∙ ap (λ (l : List PlacedRow). r ∷ l) old_firsts

  seconds_still : is_first_of 1 (r ∷ rows) r ≡ true → seconds 1 (r ∷ rows) ≡ seconds 1 rows
  seconds_still e = ap (λ (b : Bool). if not b then r ∷ Seconds else Seconds) e ∙ old_seconds

  firsts_still : is_first_of 1 (r ∷ rows) r ≡ false → firsts 1 (r ∷ rows) ≡ firsts 1 rows
  firsts_still e = ap (λ (b : Bool). if b then r ∷ Firsts else Firsts) e ∙ old_firsts

  seconds_with : is_first_of 1 (r ∷ rows) r ≡ false → seconds 1 (r ∷ rows) ≡ r ∷ seconds 1 rows
  seconds_with e = ap (λ (b : Bool). if not b then r ∷ Seconds else Seconds) e ∙ ap (λ (l : List PlacedRow). r ∷ l) old_seconds

-- ---- what a history tells

abbrev DropsIfSame : PlacedRow → PlacedRow → Type 0
DropsIfSame s f = (not (same_thing 1 f s) || drops_column f s) ≡ true

abbrev Rises : PlacedRow → PlacedRow → Type 0
Rises a b = rises_by_ordinal a b ≡ true

pub record Facts (rows : List PlacedRow) : Type 0 where
  pub few : (n : ℤ) → length (of_item n rows) ≤ 2
  pub new : AllByRecursion (λ f. is_new_column f ≡ true) (firsts 1 rows)
  pub drops : AllByRecursion (λ s. AllByRecursion (DropsIfSame s) (firsts 1 rows)) (seconds 1 rows)
  pub order : AllByRecursion (λ a. AllByRecursion (Rises a) (firsts 1 rows)) (firsts 1 rows)

counted : (r : PlacedRow) (rows : List PlacedRow) (n : ℤ) → (n ≡ item_of r → length (of_item n rows) ≤ 1) → length (of_item n rows) ≤ 2 → length (of_item n (r ∷ rows)) ≤ 2
counted r rows n one two = here (int_eq n (item_of r)) refl
  where
    here : (b : Bool) → int_eq n (item_of r) ≡ b → length (if b then r ∷ of_item n rows else of_item n rows) ≤ 2
    here true e = let le = one (one_number n (item_of r) e) in omega (arith, le)
    here false e = two

unlike_below : (a b : ℤ) → a <ℤ b → int_eq b a ≡ false
unlike_below a b lt = other_number b a (λ e. omega (arith, ints, e, lt))

module _ (r : PlacedRow) (rows : List PlacedRow) (n : IsNewRow rows r) (f : Facts rows) where
  is_first : is_first_of 1 (r ∷ rows) r ≡ true
  is_first =
      let none : list_any (λ (b : PlacedRow). is_past 1 r.row b.row) rows ≡ false = none_past rows n.above in
      ap (λ (c : Bool). not (c || list_any (λ (b : PlacedRow). is_past 1 r.row b.row) rows)) (not_itself 1 r.row) ∙ ap not none
    where
      none_past : (bs : List PlacedRow) → AllByRecursion (λ (b : PlacedRow). item_of b <ℤ item_of r) bs → list_any (λ (b : PlacedRow). is_past 1 r.row b.row) bs ≡ false
      none_past [] h = refl
      none_past (b ∷ bs) h =
          ap (λ (c : Bool). (c && is_gt (int_cmp (change_of 1 r.row) (change_of 1 b.row))) || list_any (λ (a : PlacedRow). is_past 1 r.row a.row) bs) (unlike_below (item_of b) (item_of r) h.0)
          ∙ none_past bs h.1

  none_of_it : (m : ℤ) → m ≡ item_of r → of_item m rows ≡ []
  none_of_it m e =
      none_pass (λ (b : PlacedRow). int_eq m (item_of b)) rows
      (all_weaker (λ (b : PlacedRow). item_of b <ℤ item_of r) (λ (b : PlacedRow). int_eq m (item_of b) ≡ false) (λ b lt. ap (λ (z : ℤ). int_eq z (item_of b)) e ∙ unlike_below (item_of b) (item_of r) lt) rows n.above)

  abbrev F : List PlacedRow
  F = firsts 1 rows

  firsts_above : AllByRecursion (λ (b : PlacedRow). item_of b <ℤ item_of r) F
  firsts_above = all_filter (λ (b : PlacedRow). item_of b <ℤ item_of r) (is_first_of 1 rows) rows n.above

  seconds_above : AllByRecursion (λ (b : PlacedRow). item_of b <ℤ item_of r) (seconds 1 rows)
  seconds_above = all_filter (λ (b : PlacedRow). item_of b <ℤ item_of r) (λ b. not (is_first_of 1 rows b)) rows n.above

  firsts_latest : AllByRecursion (λ (b : PlacedRow). change_of 1 b.row ≤ℤ change_of 1 r.row) F
  firsts_latest = all_filter (λ (b : PlacedRow). change_of 1 b.row ≤ℤ change_of 1 r.row) (is_first_of 1 rows) rows n.latest

  no_rise : (b : PlacedRow) → item_of b ≤ℤ item_of r → Rises r b
  no_rise b le = ap (λ (c : Bool). not c || not (is_gt (int_cmp (change_of 1 r.row) (change_of 1 b.row)))) (isnt_lesser (item_of r) (item_of b) le)

  rise : (b : PlacedRow) → change_of 1 b.row ≤ℤ change_of 1 r.row → Rises b r
  rise b le = or_second (not (is_lt (int_cmp (item_of b) (item_of r)))) (not (is_gt (int_cmp (change_of 1 b.row) (change_of 1 r.row)))) (ap not (isnt_greater (change_of 1 b.row) (change_of 1 r.row) le))

  orders : AllByRecursion (λ a. AllByRecursion (Rises a) (r ∷ F)) (r ∷ F)
  orders = (
    (
      no_rise r (omega (arith, ints)),
      all_weaker (λ (b : PlacedRow). item_of b <ℤ item_of r) (Rises r) (λ b lt. no_rise b (omega (arith, ints, lt))) F firsts_above,
    ),
    all_weaker (λ (a : PlacedRow). (change_of 1 a.row ≤ℤ change_of 1 r.row) × AllByRecursion (Rises a) F) (λ a. AllByRecursion (Rises a) (r ∷ F)) (λ a q. (rise a q.0, q.1)) F
        (all_both (λ (a : PlacedRow). change_of 1 a.row ≤ℤ change_of 1 r.row) (λ a. AllByRecursion (Rises a) F) F firsts_latest f.order),
  )

  other_thing : (s : PlacedRow) → item_of s <ℤ item_of r → DropsIfSame s r
  other_thing s lt = ap (λ (c : Bool). not c || drops_column r s) (unlike_below (item_of s) (item_of r) lt)

  dropped : AllByRecursion (λ s. AllByRecursion (DropsIfSame s) (r ∷ F)) (seconds 1 rows)
  dropped =
      all_weaker (λ (s : PlacedRow). (item_of s <ℤ item_of r) × AllByRecursion (DropsIfSame s) F) (λ s. AllByRecursion (DropsIfSame s) (r ∷ F)) (λ s q. (other_thing s q.0, q.1)) (seconds 1 rows)
      (all_both (λ (s : PlacedRow). item_of s <ℤ item_of r) (λ s. AllByRecursion (DropsIfSame s) F) (seconds 1 rows) seconds_above f.drops)

  facts_with_new : Facts (r ∷ rows)
  facts_with_new =
      let firsts_are : firsts 1 (r ∷ rows) ≡ r ∷ F = firsts_with r rows n.latest is_first in
      let seconds_are : seconds 1 (r ∷ rows) ≡ seconds 1 rows = seconds_still r rows n.latest is_first in
      record {
        few = λ m. counted r rows m (λ e. subst (λ (l : List PlacedRow). length l ≤ 1) (sym (none_of_it m e)) (omega arith)) (f.few m);
        new = subst (AllByRecursion (λ b. is_new_column b ≡ true)) (sym firsts_are) (n.right, f.new);
        drops = subst (AllByRecursion (λ s. AllByRecursion (DropsIfSame s) (firsts 1 (r ∷ rows)))) (sym seconds_are)
            (subst (λ (l : List PlacedRow). AllByRecursion (λ s. AllByRecursion (DropsIfSame s) l) (seconds 1 rows)) (sym firsts_are) dropped);
        order = subst (λ (l : List PlacedRow). AllByRecursion (λ a. AllByRecursion (Rises a) l) l) (sym firsts_are) orders;
      }

module _ (r : PlacedRow) (rows : List PlacedRow) (d : IsDropRow rows r) (f : Facts rows) where
  abbrev is_it : PlacedRow → Bool
  is_it b = int_eq (item_of r) (item_of b)

  isnt_first : is_first_of 1 (r ∷ rows) r ≡ false
  isnt_first =
      let some : list_any (λ (b : PlacedRow). is_past 1 r.row b.row) rows ≡ true = some_passed is_it (λ (b : PlacedRow). is_past 1 r.row b.row) d.first rows d.one
      (all_weaker (λ (b : PlacedRow). change_of 1 b.row <ℤ change_of 1 r.row) (λ (b : PlacedRow). is_it b ≡ true → is_past 1 r.row b.row ≡ true)
      (λ b lt e. past_where 1 r.row b.row (one_number (item_of r) (item_of b) e) lt) rows d.latest) in
      ap not (or_second (is_past 1 r.row r.row) (list_any (λ (b : PlacedRow). is_past 1 r.row b.row) rows) some)

  no_later : AllByRecursion (λ (b : PlacedRow). change_of 1 b.row ≤ℤ change_of 1 r.row) rows
  no_later = all_weaker (λ (b : PlacedRow). change_of 1 b.row <ℤ change_of 1 r.row) (λ (b : PlacedRow). change_of 1 b.row ≤ℤ change_of 1 r.row) (λ b lt. omega (arith, ints, lt)) rows d.latest

  only_first : AllByRecursion (λ b. is_it b ≡ true → b ≡ d.first) rows
  only_first = all_passed is_it (λ b. b ≡ d.first) rows (subst (AllByRecursion (λ b. b ≡ d.first)) (sym d.one) (refl, tt))

  drops_it : (b : PlacedRow) → (is_it b ≡ true → b ≡ d.first) → DropsIfSame r b
  drops_it b only = here (same_thing 1 b r) refl
    where
      here : (c : Bool) → same_thing 1 b r ≡ c → (not c || drops_column b r) ≡ true
      here true e = subst (λ (g : PlacedRow). drops_column g r ≡ true) (sym (only (is_number (item_of r) (item_of b) (sym (one_number (item_of b) (item_of r) e))))) d.drops
      here false e = refl

  drops_its_own : AllByRecursion (DropsIfSame r) (firsts 1 rows)
  drops_its_own = all_filter (DropsIfSame r) (is_first_of 1 rows) rows (all_weaker (λ b. is_it b ≡ true → b ≡ d.first) (DropsIfSame r) drops_it rows only_first)

  facts_with_drop : Facts (r ∷ rows)
  facts_with_drop =
      let firsts_are : firsts 1 (r ∷ rows) ≡ firsts 1 rows = firsts_still r rows no_later isnt_first in
      let seconds_are : seconds 1 (r ∷ rows) ≡ r ∷ seconds 1 rows = seconds_with r rows no_later isnt_first in
      record {
        few = λ m. counted r rows m (λ e. subst (λ (l : List PlacedRow). length l ≤ 1) (sym (ap (λ (z : ℤ). of_item z rows) e ∙ d.one)) (omega arith)) (f.few m);
        new = subst (AllByRecursion (λ b. is_new_column b ≡ true)) (sym firsts_are) f.new;
        drops = subst (AllByRecursion (λ s. AllByRecursion (DropsIfSame s) (firsts 1 (r ∷ rows)))) (sym seconds_are)
            (subst (λ (l : List PlacedRow). AllByRecursion (λ s. AllByRecursion (DropsIfSame s) l) (r ∷ seconds 1 rows)) (sym firsts_are) (drops_its_own, f.drops));
        order = subst (λ (l : List PlacedRow). AllByRecursion (λ a. AllByRecursion (Rises a) l) l) (sym firsts_are) f.order;
      }

facts : (rows : List PlacedRow) → IsHistory rows → Facts rows
facts [] h = record { few = λ n. omega arith; new = tt; drops = tt; order = tt }
facts (r ∷ rows) h = elim h.0 [ inl n ↦ facts_with_new r rows n (facts rows h.1) | inr d ↦ facts_with_drop r rows d (facts rows h.1) ]

-- ---- in any order

module _ (columns rows : List PlacedRow) (same : IsPermutation columns rows) (history : IsHistory rows) where
  its : Facts rows
  its = facts rows history

  first_same : IsPermutation (firsts 1 columns) (firsts 1 rows)
  first_same = firsts_alike 1 columns rows same

  second_same : IsPermutation (seconds 1 columns) (seconds 1 rows)
  second_same = seconds_alike 1 columns rows same

  few_each : list_all (λ r. nat_le (length (filter (same_thing 1 r) columns)) 2) columns ≡ true
  few_each = all_tests (λ r. nat_le (length (filter (same_thing 1 r) columns)) 2) columns (each columns)
    where
      each : (rs : List PlacedRow) → AllByRecursion (λ r. nat_le (length (filter (same_thing 1 r) columns)) 2 ≡ true) rs
      each [] = tt
      each (r ∷ rs) =
          let count : length (filter (same_thing 1 r) rows) ≡ length (filter (same_thing 1 r) columns) = length_permutation (filter (same_thing 1 r) columns) (filter (same_thing 1 r) rows) (filtered (same_thing 1 r) columns rows same) in
          (le-leb (length (filter (same_thing 1 r) columns)) 2 (subst (λ (n : ℕ). n ≤ 2) count (its.few (item_of r))), each rs)

  pairs : (test : PlacedRow → PlacedRow → Bool) (xs ys : List PlacedRow) → AllByRecursion (λ x. AllByRecursion (λ y. test x y ≡ true) ys) xs → list_all (λ x. list_all (test x) ys) xs ≡ true
  pairs test xs ys h =
      all_tests (λ x. list_all (test x) ys) xs
      (all_weaker (λ x. AllByRecursion (λ y. test x y ≡ true) ys) (λ x. list_all (test x) ys ≡ true) (λ x k. all_tests (test x) ys k) xs h)

  pub columns_right : columns_are_right columns ≡ true
  unfolding columns_are_right
  columns_right =
      all_three (list_all (λ r. nat_le (length (filter (same_thing 1 r) columns)) 2) columns) (list_all is_new_column (firsts 1 columns))
      (list_all (λ s. list_all (λ f. not (same_thing 1 f s) || drops_column f s) (firsts 1 columns)) (seconds 1 columns))
      few_each
      (all_in_order is_new_column (firsts 1 columns) (firsts 1 rows) first_same ∙ all_tests is_new_column (firsts 1 rows) its.new)
      (pairs_alike (λ (s f : PlacedRow). not (same_thing 1 f s) || drops_column f s) (seconds 1 columns) (seconds 1 rows) (firsts 1 columns) (firsts 1 rows) second_same first_same
      ∙ pairs (λ (s f : PlacedRow). not (same_thing 1 f s) || drops_column f s) (seconds 1 rows) (firsts 1 rows) its.drops)

  -- of two columns the one with the greater ordinal has no smaller change
  pub ordinals_rise : list_all (λ a. list_all (rises_by_ordinal a) (firsts 1 columns)) (firsts 1 columns) ≡ true
  ordinals_rise =
      pairs_alike rises_by_ordinal (firsts 1 columns) (firsts 1 rows) (firsts 1 columns) (firsts 1 rows) first_same first_same
      ∙ pairs rises_by_ordinal (firsts 1 rows) (firsts 1 rows) its.order
