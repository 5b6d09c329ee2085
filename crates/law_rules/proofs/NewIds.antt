-- The ids that rows of the table of tables are about, and what one more row leaves of that.
use Rattle.std.proofs.Common.{◌≡◌, ◌≢◌, ◌<◌, ◌≤◌, ℕ, ℤ, zero, suc, pos, inl, inr, refl, sym, ap, subst, ◌∙◌, arith, Bool, true, false, List, [], ◌∷◌, ◌++◌}
use Rattle.std.proofs.lemmas.Bool.{eq-eqb, eqb-true}
use Rattle.std.proofs.lemmas.Bool.Decides.{Decides-int_eq}
use Rattle.std.proofs.lemmas.Int.{ints}
use Rattle.std.specs.Prelude.{◌||◌, ◌==◌, ◌+ℤ◌, negsuc, not}
use Rattle.std.specs.List.{AllByRecursion, list_all, list_any}
use Rattle.std.specs.List.Sorted.{IsPermutation}
use Rattle.std.specs.Ordering.{int_eq}
use Rattle.sql_value.specs.declared.value.Value.TheVariants.{Null, Num, Text, Bytes, Date}
use Rattle.spec_model.specs.Rows.{Row}
use Rattle.spec_history.specs.Lists.{Some_of, In}
use Rattle.law_frame.proofs.Alls.{all_weaker, all_append}
use Rattle.law_catalog_rows.specs.Encoded.{is_about}
use Rattle.law_catalog_rows.specs.Latest.{number_at, change_of}
use Rattle.spec_rules.specs.Places.{PlacedRow, stands_before}
use Rattle.spec_rules.specs.Rows.{CatalogRows, has_no_change, is_about_table, tables_about}
use Rattle.spec_rules.specs.Ids.{is_created_before, ids_follow}
use Rattle.law_rules.proofs.InOrder.{Before, all_in_order, some_in_order, some_weaker, some_of_all, in_some, both, or_second, never_true, all_of, some_of}
use Rattle.law_rules.proofs.Said.{IsOf}

-- the row says that the table with this id was created
pub record IsFirst (id : ℕ) (r : PlacedRow) : Type 0 where
  pub of : IsOf 0 id r
  pub change : change_of 0 r.row ≡ pos 0

some_appended : {A : Type 0} (P : A → Type 0) (xs ys : List A) → Some_of P xs → Some_of P (xs ++ ys)
some_appended P [] ys h = absurd h
some_appended P (x ∷ xs) ys h = elim h [ inl p ↦ inl p | inr q ↦ inr (some_appended P xs ys q) ]

at_end : {A : Type 0} (x : A) (xs : List A) → In x (xs ++ x ∷ [])
at_end x [] = inl refl
at_end x (y ∷ ys) = inr (at_end x ys)

one_number : (m n : ℕ) → pos m ≡ pos n → m ≡ n
one_number m n e = cc

-- a row of the table before that stands before those that say this one was created
pub record IsBeforeFirst (rows : List PlacedRow) (id before : ℕ) (b : PlacedRow) : Type 0 where
  pub first : IsFirst before b
  pub earlier : AllByRecursion (λ w. IsFirst id w → Before b w) rows

abbrev pub FollowsOne : List PlacedRow → ℕ → Type 0
FollowsOne rows id = (before : ℕ) → id ≡ suc before → 3 < id → Some_of (IsBeforeFirst rows id before) rows

pub record IdsSaid (rows : List PlacedRow) (ids : List ℕ) : Type 0 where
  pub about : AllByRecursion (λ w. Some_of (λ id. IsOf 0 id w) ids) rows
  pub made : AllByRecursion (λ id. Some_of (IsFirst id) rows) ids
  pub follow : AllByRecursion (FollowsOne rows) ids

-- ---- in any order

module _ (V W : List PlacedRow) (same : IsPermutation W V) where
  before_so : (id before : ℕ) (b : PlacedRow) → IsBeforeFirst V id before b → IsBeforeFirst W id before b
  before_so id before b k = record { first = k.first; earlier = all_in_order (λ w. IsFirst id w → Before b w) W V same k.earlier }

  follows_so : (id : ℕ) → FollowsOne V id → FollowsOne W id
  follows_so id h before is lt = some_in_order (IsBeforeFirst W id before) W V same (some_weaker (IsBeforeFirst V id before) (IsBeforeFirst W id before) (before_so id before) V (h before is lt))

  pub ids_in_order : (ids : List ℕ) → IdsSaid V ids → IdsSaid W ids
  ids_in_order ids h = record {
    about = all_in_order (λ w. Some_of (λ id. IsOf 0 id w) ids) W V same h.about;
    made = all_weaker (λ id. Some_of (IsFirst id) V) (λ id. Some_of (IsFirst id) W) (λ id k. some_in_order (IsFirst id) W V same k) ids h.made;
    follow = all_weaker (FollowsOne V) (FollowsOne W) follows_so ids h.follow;
  }

-- ---- a row more

module _ (V : List PlacedRow) (ids : List ℕ) (new : PlacedRow) (past : AllByRecursion (λ r. Before r new) V) where
  -- where it isn't the first one about this table
  follows_still : (id : ℕ) → (IsFirst id new → ⊥) → FollowsOne V id → FollowsOne (new ∷ V) id
  follows_still id not h before is lt =
      inr (some_weaker (IsBeforeFirst V id before) (IsBeforeFirst (new ∷ V) id before) (λ b k. record { first = k.first; earlier = ((λ f. absurd (not f)), k.earlier) }) V (h before is lt))

  -- DROP TABLE
  pub dropped_ids : (id n : ℕ) → IsOf 0 id new → In id ids → 1 ≤ n → change_of 0 new.row ≡ pos n → IdsSaid V ids → IdsSaid (new ∷ V) ids
  dropped_ids id n of there some change h =
      let no_first : (i : ℕ) → IsFirst i new → ⊥ = λ i f. (let same : n ≡ 0 = one_number n 0 (sym change ∙ f.change) in omega (arith, same, some)) in
      record {
        about = (in_some (λ i. IsOf 0 i new) id ids there of, h.about);
        made = all_weaker (λ i. Some_of (IsFirst i) V) (λ i. Some_of (IsFirst i) (new ∷ V)) (λ i k. inr k) ids h.made;
        follow = all_weaker (FollowsOne V) (FollowsOne (new ∷ V)) (λ i k. follows_still i (no_first i) k) ids h.follow;
      }

  -- CREATE TABLE
  module _ (id : ℕ) (first : IsFirst id new) (below : AllByRecursion (λ i. i < id) ids) (next : (before : ℕ) → id ≡ suc before → 3 < id → In before ids) (h : IdsSaid V ids) where
    not_before : (i : ℕ) → i < id → IsFirst i new → ⊥
    not_before i lt f = let same : i ≡ id = one_number i id (sym f.of ∙ first.of) in omega (arith, same, lt)

    is_other : (w : PlacedRow) (is : List ℕ) → AllByRecursion (λ i. i < id) is → Some_of (λ i. IsOf 0 i w) is → IsOf 0 id w → ⊥
    is_other w [] all some of = some
    is_other w (i ∷ is) all some of = elim some [
      | inl k ↦ (let same : i ≡ id = one_number i id (sym k ∙ of) in omega (arith, same, all.0))
      | inr more ↦ is_other w is all.1 more of
    ]

    made_before : (i : ℕ) (is : List ℕ) → In i is → AllByRecursion (λ j. Some_of (IsFirst j) V) is → Some_of (IsFirst i) V
    made_before i [] there all = absurd there
    made_before i (j ∷ js) there all = elim there [
      | inl same ↦ subst (λ (n : ℕ). Some_of (IsFirst n) V) same all.0
      | inr more ↦ made_before i js more all.1
    ]

    follows_new : FollowsOne (new ∷ V) id
    follows_new before is lt =
        inr (some_weaker (λ b. IsFirst before b × Before b new) (IsBeforeFirst (new ∷ V) id before)
        (λ b k. record {
          first = k.0;
          earlier = (
            (λ f. k.1),
            all_weaker (λ w. Some_of (λ i. IsOf 0 i w) ids) (λ w. IsFirst id w → Before b w) (λ w some f. absurd (is_other w ids below some f.of)) V h.about,
          );
        }) V (some_of_all (IsFirst before) (λ b. Before b new) V (made_before before ids (next before is lt) h.made) past))

    follow_both : (is : List ℕ) → AllByRecursion (λ i. i < id) is → AllByRecursion (FollowsOne V) is → AllByRecursion (FollowsOne (new ∷ V)) is
    follow_both [] p q = tt
    follow_both (i ∷ is) p q = (follows_still i (not_before i p.0) q.0, follow_both is p.1 q.1)

    pub created_ids : IdsSaid (new ∷ V) (ids ++ id ∷ [])
    created_ids = record {
      about = (
        in_some (λ i. IsOf 0 i new) id (ids ++ id ∷ []) (at_end id ids) first.of,
        all_weaker (λ w. Some_of (λ i. IsOf 0 i w) ids) (λ w. Some_of (λ i. IsOf 0 i w) (ids ++ id ∷ [])) (λ w k. some_appended (λ i. IsOf 0 i w) ids (id ∷ []) k) V h.about,
      );
      made = all_append (λ i. Some_of (IsFirst i) (new ∷ V)) ids (id ∷ []) (all_weaker (λ i. Some_of (IsFirst i) V) (λ i. Some_of (IsFirst i) (new ∷ V)) (λ i k. inr k) ids h.made) (inl first, tt);
      follow = all_append (FollowsOne (new ∷ V)) ids (id ∷ []) (follow_both ids below h.follow) (follows_new, tt);
    }

-- ---- rows about a table

pub about_of : (n : ℕ) (row : Row) → is_about (pos n) row ≡ true → number_at 0 row ≡ pos n
about_of n [] e = cc
about_of n (Null ∷ vs) e = cc
about_of n (Num s z ∷ vs) e = (Decides-int_eq z (pos n)).0 e
about_of n (Text t ∷ vs) e = cc
about_of n (Bytes b ∷ vs) e = cc
about_of n (Date d ∷ vs) e = cc

not_zero : (n : ℕ) → 1 ≤ n → pos 0 ≡ pos n → ⊥
not_zero n le e = let same : 0 ≡ n = one_number 0 n e in omega (arith, same, le)

pub of_about : (n : ℕ) → 1 ≤ n → (row : Row) → number_at 0 row ≡ pos n → is_about (pos n) row ≡ true
of_about n le [] e = absurd (not_zero n le e)
of_about n le (Null ∷ vs) e = absurd (not_zero n le e)
of_about n le (Num s z ∷ vs) e = (Decides-int_eq z (pos n)).1 e
of_about n le (Text t ∷ vs) e = absurd (not_zero n le e)
of_about n le (Bytes b ∷ vs) e = absurd (not_zero n le e)
of_about n le (Date d ∷ vs) e = absurd (not_zero n le e)

-- ---- the rule

module _ (rows : CatalogRows) where
  first_of : (id : ℕ) (w : PlacedRow) → is_about_table (pos id) w ≡ true → has_no_change 0 w ≡ true → IsFirst id w
  first_of id w about e = record { of = about_of id w.row about; change = (Decides-int_eq (change_of 0 w.row) (pos 0)).0 e }

  earlier_if_first : (id : ℕ) (b w : PlacedRow) → (IsFirst id w → Before b w) → is_about_table (pos id) w ≡ true → (not (has_no_change 0 w) || stands_before b.place w.place) ≡ true
  earlier_if_first id b w h about = here (has_no_change 0 w) refl
    where
      here : (c : Bool) → has_no_change 0 w ≡ c → (not c || stands_before b.place w.place) ≡ true
      here true e = h (first_of id w about e)
      here false e = refl

  created_before : (id before : ℕ) → 1 ≤ before → (b : PlacedRow) → IsBeforeFirst rows.tables id before b
      → (is_about_table (pos before) b ≡ true) × (is_created_before (tables_about rows (pos id)) b ≡ true)
  created_before id before le b k = (
    of_about before le b.row k.first.of,
    both (has_no_change 0 b) (list_all (λ (r : PlacedRow). not (has_no_change 0 r) || stands_before b.place r.place) (tables_about rows (pos id)))
        ((Decides-int_eq (change_of 0 b.row) (pos 0)).1 k.first.change)
        (all_of (λ (r : PlacedRow). not (has_no_change 0 r) || stands_before b.place r.place) (is_about_table (pos id)) rows.tables
        (all_weaker (λ w. IsFirst id w → Before b w) (λ (w : PlacedRow). is_about_table (pos id) w ≡ true → (not (has_no_change 0 w) || stands_before b.place w.place) ≡ true)
        (λ w h about. earlier_if_first id b w h about) rows.tables k.earlier)),
  )

  one_less : (n : ℕ) → pos (suc n) +ℤ negsuc 0 ≡ pos n
  one_less n = omega (arith, ints)

  pub ids_keep_the_rule : (id : ℕ) → 2 < id → FollowsOne rows.tables id → ids_follow rows (pos id) ≡ true
  unfolding ids_follow
  ids_keep_the_rule zero lt h = absurd (omega (arith, lt))
  ids_keep_the_rule (suc n) lt h = here (suc n == 3) refl
    where
      here : (c : Bool) → (suc n == 3) ≡ c → (int_eq (pos (suc n)) (pos 3) || list_any (is_created_before (tables_about rows (pos (suc n)))) (tables_about rows (pos (suc n) +ℤ negsuc 0))) ≡ true
      here true e = rw ((Decides-int_eq (pos (suc n)) (pos 3)).1 (ap (λ (m : ℕ). pos m) (eqb-true (suc n) 3 e))) refl
      here false e =
          let differs : suc n ≢ 3 = λ same. never_true (suc n == 3) (eq-eqb (suc n) 3 same) e in
          let more : 3 < suc n = omega (arith, lt, differs) in
          or_second (int_eq (pos (suc n)) (pos 3)) (list_any (is_created_before (tables_about rows (pos (suc n)))) (tables_about rows (pos (suc n) +ℤ negsuc 0)))
          (ap (λ (z : ℤ). list_any (is_created_before (tables_about rows (pos (suc n)))) (tables_about rows z)) (one_less n)
          ∙ some_of (is_created_before (tables_about rows (pos (suc n)))) (is_about_table (pos n)) rows.tables
          (some_weaker (IsBeforeFirst rows.tables (suc n) n) (λ (b : PlacedRow). (is_about_table (pos n) b ≡ true) × (is_created_before (tables_about rows (pos (suc n))) b ≡ true))
          (λ b k. created_before (suc n) n (omega (arith, more)) b k) rows.tables (h n refl more)))
