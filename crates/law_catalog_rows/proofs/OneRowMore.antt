-- One row more, whose change is above the changes of all others: which rows count then, and what follows from those
-- before.
use Rattle.std.proofs.Common.{◌≡◌, ◌+◌, ℕ, suc, ℤ, pos, inl, inr, refl, sym, ap, subst, ◌∙◌, Bool, true, false, List, [], ◌∷◌, ◌++◌, map, length, arith}
use Rattle.std.proofs.lemmas.Bool.{ne_eqb}
use Rattle.std.proofs.lemmas.Int.{ints}
use Rattle.std.proofs.lemmas.List.{get_or-set_other}
use Rattle.std.proofs.lemmas.List.Sorted.{IsPermutation-cons, IsPermutation-middle}
use Rattle.std.specs.List.{AllByRecursion, list_any, list_all, filter}
use Rattle.std.specs.List.Sorted.{IsPermutation}
use Rattle.std.specs.Ordering.{int_cmp, int_eq, is_gt}
use Rattle.std.specs.Prelude.{◌==◌, ◌&&◌, ◌||◌, ◌⊎◌, ◌<ℤ◌, ◌≤ℤ◌, not, if◌then◌else◌}
use Rattle.sql_value.specs.declared.value.Value.TheVariants.{Null}
use Rattle.spec_model.specs.Lists.{sorted}
use Rattle.spec_model.specs.Rows.{Row, number}
use Rattle.law_frame.proofs.Alls.{all_filter}
use Rattle.law_frame.proofs.SameKeys.{and_true, or_false}
use Rattle.law_catalog_rows.specs.Changes.{counts_up, is_first, later_changes, is_of_index, changes_are_right, is_dropped, comes_before, rows_before, follows, items_follow}
use Rattle.law_catalog_rows.specs.Latest.{number_in, number_at, same_number, change_of, is_past, is_latest, latest, without_change, latest_said}
use Rattle.law_catalog_rows.proofs.AnyOrder.{three_true, all_three}
use Rattle.law_catalog_rows.proofs.CountingUp.{greater, is_greater, isnt_greater, one_number, is_number, never, not_zero, both_true, sorted_alike, greatest_count, counts_on}
use Rattle.law_catalog_rows.proofs.Orders.{filtered}
use Rattle.law_catalog_rows.proofs.Unchanged.{in_any_order}

-- ---- booleans

pub and_false : (b : Bool) → (b && false) ≡ false
and_false true = refl
and_false false = refl

or_true : (b : Bool) → (b || true) ≡ true
or_true true = refl
or_true false = refl

both_false : (a b : Bool) → a ≡ false → b ≡ false → (a || b) ≡ false
both_false a b e f = rw (e, f) refl

-- ---- rows among others

abbrev pub In : Row → List Row → Type 0
In x [] = ⊥
In x (r ∷ rs) = (r ≡ x) ⊎ In x rs

pub holds_of : (P : Row → Type 0) (x : Row) (rows : List Row) → AllByRecursion P rows → In x rows → P x
holds_of P x [] h i = absurd i
holds_of P x (r ∷ rs) h (inl same) = subst P same h.0
holds_of P x (r ∷ rs) h (inr i) = holds_of P x rs h.1 i

pub holds_of_all : (P : Row → Type 0) (rows : List Row) → ((x : Row) → In x rows → P x) → AllByRecursion P rows
holds_of_all P [] h = tt
holds_of_all P (r ∷ rs) h = (h r (inl refl), holds_of_all P rs (λ x i. h x (inr i)))

module _ (test : Row → Bool) where
  passed_in : (x : Row) (rows : List Row) → test x ≡ true → In x rows → In x (filter test rows)
  passed_in x [] e i = absurd i
  passed_in x (r ∷ rs) e (inl same) = here (test r) refl
    where
      here : (b : Bool) → test r ≡ b → In x (if b then r ∷ filter test rs else filter test rs)
      here true f = inl same
      here false f = let g : test r ≡ true = ap test same ∙ e in cc
  passed_in x (r ∷ rs) e (inr i) = here (test r) (passed_in x rs e i)
    where
      here : (b : Bool) → In x (filter test rs) → In x (if b then r ∷ filter test rs else filter test rs)
      here true j = inr j
      here false j = j

  all_true : (rows : List Row) → list_all test rows ≡ true → AllByRecursion (λ x. test x ≡ true) rows
  all_true [] e = tt
  all_true (r ∷ rs) e = let p = and_true (test r) (list_all test rs) e in (p.0, all_true rs p.1)

  true_of_all : (rows : List Row) → AllByRecursion (λ x. test x ≡ true) rows → list_all test rows ≡ true
  true_of_all [] h = refl
  true_of_all (r ∷ rs) h = both_true (test r) (list_all test rs) h.0 (true_of_all rs h.1)

  pub none_passes : (rows : List Row) → AllByRecursion (λ x. test x ≡ false) rows → filter test rows ≡ []
  none_passes [] h = refl
  none_passes (r ∷ rs) h = rw h.0 (none_passes rs h.1)

  pub all_passes : (rows : List Row) → AllByRecursion (λ x. test x ≡ true) rows → filter test rows ≡ rows
  all_passes [] h = refl
  all_passes (r ∷ rs) h = rw (h.0, all_passes rs h.1) refl

  -- one that passes is left
  some_left : (rows : List Row) → list_any test rows ≡ true → (length (filter test rows) == 0) ≡ false
  some_left [] e = cc
  some_left (r ∷ rs) e = here (test r) e (λ f. some_left rs f)
    where
      here : (b : Bool) → (b || list_any test rs) ≡ true → (list_any test rs ≡ true → (length (filter test rs) == 0) ≡ false) → (length (if b then r ∷ filter test rs else filter test rs) == 0) ≡ false
      here true f g = ne_eqb (suc (length (filter test rs))) 0 (λ e. omega (arith, e))
      here false f g = g f

  -- what all that pass pass too
  pub all_that_pass : (other : Row → Bool) (rows : List Row) → ((x : Row) → In x rows → test x ≡ true → other x ≡ true) → list_all other (filter test rows) ≡ true
  all_that_pass other [] h = refl
  all_that_pass other (r ∷ rs) h = here (test r) refl (all_that_pass other rs (λ x i. h x (inr i)))
    where
      here : (b : Bool) → test r ≡ b → list_all other (filter test rs) ≡ true → list_all other (if b then r ∷ filter test rs else filter test rs) ≡ true
      here true e k = both_true (other r) (list_all other (filter test rs)) (h r (inl refl) e) k
      here false e k = k

any_of_passed : (p test : Row → Bool) (rows : List Row) → list_any p (filter test rows) ≡ true → list_any p rows ≡ true
any_of_passed p test [] e = cc
any_of_passed p test (r ∷ rs) e = here (test r) e (λ f. any_of_passed p test rs f)
  where
    left : (a b : Bool) → b ≡ true → (a || b) ≡ true
    left a b f = ap (λ (c : Bool). a || c) f ∙ or_true a

    again : (a b c : Bool) → (b ≡ true → c ≡ true) → (a || b) ≡ true → (a || c) ≡ true
    again true b c g f = refl
    again false b c g f = g f

    here : (b : Bool) → list_any p (if b then r ∷ filter test rs else filter test rs) ≡ true → (list_any p (filter test rs) ≡ true → list_any p rs ≡ true) → (p r || list_any p rs) ≡ true
    here true f g = again (p r) (list_any p (filter test rs)) (list_any p rs) g f
    here false f g = left (p r) (list_any p rs) (g f)

any_weaker : (p q : Row → Bool) (rows : List Row) → ((x : Row) → p x ≡ true → q x ≡ true) → list_any q rows ≡ false → list_any p rows ≡ false
any_weaker p q [] h e = refl
any_weaker p q (r ∷ rs) h e =
    let o = or_false (q r) (list_any q rs) e in
    both_false (p r) (list_any p rs) (never (p r) (λ f. let g = h r f in let k : q r ≡ false = o.0 in cc)) (any_weaker p q rs h o.1)

-- ---- which row counts

module _ (k : ℕ) where
  pub past : (a b : Row) → is_past k a b ≡ true → (number_at k a ≡ number_at k b) × (change_of k b <ℤ change_of k a)
  past a b h =
      let p = and_true (same_number k a b) (is_gt (int_cmp (change_of k a) (change_of k b))) h in
      (one_number (number_at k a) (number_at k b) p.0, greater (change_of k a) (change_of k b) p.1)

  pub past_where : (a b : Row) → number_at k a ≡ number_at k b → change_of k b <ℤ change_of k a → is_past k a b ≡ true
  past_where a b same less =
      both_true (same_number k a b) (is_gt (int_cmp (change_of k a) (change_of k b)))
      (is_number (number_at k a) (number_at k b) same) (is_greater (change_of k a) (change_of k b) less)

  pub not_past : (a b : Row) → change_of k a ≤ℤ change_of k b → is_past k a b ≡ false
  not_past a b le = ap (λ (c : Bool). same_number k a b && c) (isnt_greater (change_of k a) (change_of k b) le) ∙ and_false (same_number k a b)

  pub not_itself : (a : Row) → is_past k a a ≡ false
  not_itself a = not_past a a (omega (arith, ints))

  past_both : (a b c : Row) → is_past k a b ≡ true → is_past k b c ≡ true → is_past k a c ≡ true
  past_both a b c e f =
      let p = past a b e in
      let q = past b c f in
      past_where a c (p.0 ∙ q.0) (omega (arith, ints, p.1, q.1))

  abbrev any_past : List Row → Row → Bool
  any_past rows x = list_any (λ a. is_past k a x) rows

  -- the row that counts about what x is about: x itself, or one that is past it
  pub record Counting (rows : List Row) (x : Row) : Type 0 where
    pub row : Row
    pub among : (row ≡ x) ⊎ (In row rows × (is_past k row x ≡ true))
    pub last : any_past rows row ≡ false

  further : (r : Row) (rs : List Row) (x : Row) (c : Counting rs x) (b : Bool) → is_past k r c.row ≡ b → Counting (r ∷ rs) x
  further r rs x c true e = record {
    row = r;
    among = inr (inl refl, over c.among);
    last = both_false (is_past k r r) (any_past rs r) (not_itself r) (any_weaker (λ a. is_past k a r) (λ a. is_past k a c.row) rs (λ a f. past_both a r c.row f e) c.last);
  }
    where
      over : (c.row ≡ x) ⊎ (In c.row rs × (is_past k c.row x ≡ true)) → is_past k r x ≡ true
      over (inl same) = subst (λ (y : Row). is_past k r y ≡ true) same e
      over (inr p) = past_both r c.row x e p.1
  further r rs x c false e = record { row = c.row; among = still c.among; last = both_false (is_past k r c.row) (any_past rs c.row) e c.last }
    where
      still : (c.row ≡ x) ⊎ (In c.row rs × (is_past k c.row x ≡ true)) → (c.row ≡ x) ⊎ (In c.row (r ∷ rs) × (is_past k c.row x ≡ true))
      still (inl same) = inl same
      still (inr p) = inr (inr p.0, p.1)

  pub counting : (rows : List Row) (x : Row) → Counting rows x
  counting [] x = record { row = x; among = inl refl; last = refl }
  counting (r ∷ rs) x = let c = counting rs x in further r rs x c (is_past k r c.row) refl

  pub it_counts : (rows : List Row) (x : Row) → In x rows → (c : Counting rows x) → In c.row (latest k rows)
  it_counts rows x i c = passed_in (is_latest k rows) c.row rows (ap not c.last) (here c.among)
    where
      here : (c.row ≡ x) ⊎ (In c.row rows × (is_past k c.row x ≡ true)) → In c.row rows
      here (inl same) = subst (λ (y : Row). In y rows) (sym same) i
      here (inr p) = p.0

  -- what holds of all that they say holds of what it says
  pub it_says : (P : Row → Type 0) (rows wanted : List Row) → IsPermutation (latest_said k rows) wanted → AllByRecursion P wanted → (x : Row) → In x rows → (c : Counting rows x) → P (without_change k c.row)
  it_says P rows wanted p all x i c = holds_of (λ q. P (without_change k q)) c.row (latest k rows) (each (latest k rows) (in_any_order P (latest_said k rows) wanted p all)) (it_counts rows x i c)
    where
      each : (qs : List Row) → AllByRecursion P (map (without_change k) qs) → AllByRecursion (λ q. P (without_change k q)) qs
      each [] h = tt
      each (q ∷ qs) h = (h.0, each qs h.1)

  pub about_one : (rows : List Row) (x : Row) (c : Counting rows x) → number_at k c.row ≡ number_at k x
  about_one rows x c = here c.among
    where
      here : (c.row ≡ x) ⊎ (In c.row rows × (is_past k c.row x ≡ true)) → number_at k c.row ≡ number_at k x
      here (inl same) = ap (number_at k) same
      here (inr p) = (past c.row x p.1).0

  -- ---- what a row says, whatever its change

  pub said_at : (row : Row) (j : ℕ) → (j ≡ k + 1 → ⊥) → number_at j (without_change k row) ≡ number_at j row
  said_at row j other = ap number_in (get_or-set_other row (k + 1) j (number 0) Null other)

  pub said_number : (row : Row) → number_at k (without_change k row) ≡ number_at k row
  said_number row = said_at row k (λ e. omega (arith, e))

-- ---- one row more

filter_twice : (p : Row → Bool) (b c : Bool) (x : Row) (xs ys : List Row) → p x ≡ c → ys ≡ filter p xs → (if (c && b) then x ∷ ys else ys) ≡ filter p (if b then x ∷ xs else xs)
filter_twice p true true x xs ys e f = rw e (ap (λ (l : List Row). x ∷ l) f)
filter_twice p true false x xs ys e f = rw e f
filter_twice p false true x xs ys e f = f
filter_twice p false false x xs ys e f = f

module _ (k : ℕ) (r : Row) where
  -- the row's change is above that of another
  abbrev pub IsAbove : Row → Type 0
  IsAbove q = change_of k q <ℤ change_of k r

  -- the row isn't about the same
  abbrev pub isnt_same : Row → Bool
  isnt_same w = not (same_number k r w)

  module _ (rows : List Row) where
    none_past : (qs : List Row) → AllByRecursion IsAbove qs → any_past k qs r ≡ false
    none_past [] h = refl
    none_past (q ∷ qs) h = both_false (is_past k q r) (any_past k qs r) (not_past k q r (omega (arith, ints, h.0))) (none_past qs h.1)

    it_is_latest : AllByRecursion IsAbove rows → is_latest k (r ∷ rows) r ≡ true
    it_is_latest h = ap not (both_false (is_past k r r) (any_past k rows r) (not_itself k r) (none_past rows h))

    latest_still : (q : Row) → IsAbove q → is_latest k (r ∷ rows) q ≡ (isnt_same q && is_latest k rows q)
    latest_still q h =
        ap (λ (c : Bool). not ((same_number k r q && c) || any_past k rows q)) (is_greater (change_of k r) (change_of k q) h)
        ∙ by (same_number k r q) (any_past k rows q)
      where
        by : (s l : Bool) → not ((s && true) || l) ≡ (not s && not l)
        by true l = refl
        by false l = refl

    others_latest : (qs : List Row) → AllByRecursion IsAbove qs → filter (is_latest k (r ∷ rows)) qs ≡ filter isnt_same (filter (is_latest k rows) qs)
    others_latest [] h = refl
    others_latest (q ∷ qs) h =
        ap (λ (b : Bool). if b then q ∷ filter (is_latest k (r ∷ rows)) qs else filter (is_latest k (r ∷ rows)) qs) (latest_still q h.0)
        ∙ filter_twice isnt_same (is_latest k rows q) (isnt_same q) q (filter (is_latest k rows) qs) (filter (is_latest k (r ∷ rows)) qs) refl (others_latest qs h.1)

    latest_with : AllByRecursion IsAbove rows → latest k (r ∷ rows) ≡ r ∷ filter isnt_same (latest k rows)
    latest_with h =
        ap (λ (b : Bool). if b then r ∷ filter (is_latest k (r ∷ rows)) rows else filter (is_latest k (r ∷ rows)) rows) (it_is_latest h)
        ∙ ap (λ (l : List Row). r ∷ l) (others_latest rows h)

  said_others : (qs : List Row) → map (without_change k) (filter isnt_same qs) ≡ filter isnt_same (map (without_change k) qs)
  said_others [] = refl
  said_others (q ∷ qs) =
      here (isnt_same q) (filter isnt_same qs)
      ∙ ap (λ (l : List Row). if isnt_same q then without_change k q ∷ l else l) (said_others qs)
      ∙ ap (λ (n : ℤ). if not (int_eq (number_at k r) n) then without_change k q ∷ filter isnt_same (map (without_change k) qs) else filter isnt_same (map (without_change k) qs)) (sym (said_number k q))
    where
      here : (b : Bool) (l : List Row) → map (without_change k) (if b then q ∷ l else l) ≡ (if b then without_change k q ∷ map (without_change k) l else map (without_change k) l)
      here true l = refl
      here false l = refl

  -- what the rows say that count: what it says, and what those said that aren't about the same
  pub said_with : (rows wanted : List Row) → AllByRecursion IsAbove rows → IsPermutation (latest_said k rows) wanted
      → IsPermutation (latest_said k (r ∷ rows)) (without_change k r ∷ filter isnt_same wanted)
  said_with rows wanted h p =
      subst (λ (l : List Row). IsPermutation l (without_change k r ∷ filter isnt_same wanted))
      (sym (ap (map (without_change k)) (latest_with rows h) ∙ ap (λ (l : List Row). without_change k r ∷ l) (said_others (latest k rows))))
      (IsPermutation-cons (without_change k r) (filter isnt_same (latest_said k rows)) (filter isnt_same wanted) (filtered isnt_same (latest_said k rows) wanted p))

  -- where one is about the same, the row is past one
  some_past : (rows : List Row) → AllByRecursion IsAbove rows → list_any (same_number k r) rows ≡ true → list_any (is_past k r) rows ≡ true
  some_past [] h e = cc
  some_past (q ∷ qs) h e =
      ap (λ (c : Bool). (same_number k r q && c) || list_any (is_past k r) qs) (is_greater (change_of k r) (change_of k q) h.0)
      ∙ here (same_number k r q) e (λ f. some_past qs h.1 f)
    where
      here : (b : Bool) → (b || list_any (same_number k r) qs) ≡ true → (list_any (same_number k r) qs ≡ true → list_any (is_past k r) qs ≡ true) → ((b && true) || list_any (is_past k r) qs) ≡ true
      here true f g = refl
      here false f g = g f

  pub before_some : (rows : List Row) → AllByRecursion IsAbove rows → list_any (same_number k r) rows ≡ true → (length (filter (is_past k r) (r ∷ rows)) == 0) ≡ false
  before_some rows h e =
      ap (λ (b : Bool). length (if b then r ∷ filter (is_past k r) rows else filter (is_past k r) rows) == 0) (not_itself k r)
      ∙ some_left (is_past k r) rows (some_past rows h e)

  same_said : (qs : List Row) → list_any (same_number k r) (map (without_change k) qs) ≡ list_any (same_number k r) qs
  same_said [] = refl
  same_said (q ∷ qs) =
      ap (λ (n : ℤ). int_eq (number_at k r) n || list_any (same_number k r) (map (without_change k) qs)) (said_number k q)
      ∙ ap (λ (b : Bool). same_number k r q || b) (same_said qs)

  -- where a row that counts says something of the same, a row is about it
  pub some_about : (rows : List Row) → list_any (same_number k r) (latest_said k rows) ≡ true → list_any (same_number k r) rows ≡ true
  some_about rows e = any_of_passed (same_number k r) (is_latest k rows) rows (sym (same_said (latest k rows)) ∙ e)

-- ---- its change

later_with : (k : ℕ) (r : Row) (rows : List Row) (n : ℕ) → change_of k r ≡ pos (suc n) → later_changes k (r ∷ rows) ≡ pos (suc n) ∷ later_changes k rows
later_with k r rows n e =
    ap (λ (c : ℤ). if not (int_eq c (pos 0)) then c ∷ later_changes k rows else later_changes k rows) e
    ∙ ap (λ (b : Bool). if not b then pos (suc n) ∷ later_changes k rows else later_changes k rows) (not_zero n)

isnt_first : (k : ℕ) (r : Row) (n : ℕ) → change_of k r ≡ pos (suc n) → is_first k r ≡ false
isnt_first k r n e = ap (λ (c : ℤ). int_eq c (pos 0)) e ∙ not_zero n

module _ (tables items : List Row) where
  -- the changes of all rows about the table that aren't 0
  abbrev pub all_later : List ℤ
  all_later = later_changes 0 tables ++ later_changes 1 items

  abbrev indexes_are_new : List Row → Bool
  indexes_are_new rows = list_all (λ row. not (is_of_index row) || is_first 1 row) rows

  module _ (r : Row) (right : changes_are_right tables items ≡ true) where
    pub right_with_table : change_of 0 r ≡ pos (suc (greatest_count all_later)) → changes_are_right (r ∷ tables) items ≡ true
    right_with_table e =
        let t = three_true (length (filter (is_first 0) tables) == 1) (indexes_are_new items) (counts_up 1 (sorted int_cmp all_later)) right in
        all_three (length (filter (is_first 0) (r ∷ tables)) == 1) (indexes_are_new items) (counts_up 1 (sorted int_cmp (later_changes 0 (r ∷ tables) ++ later_changes 1 items)))
        (ap (λ (b : Bool). length (if b then r ∷ filter (is_first 0) tables else filter (is_first 0) tables) == 1) (isnt_first 0 r (greatest_count all_later) e) ∙ t.first)
        t.second
        (ap (λ (l : List ℤ). counts_up 1 (sorted int_cmp (l ++ later_changes 1 items))) (later_with 0 r tables (greatest_count all_later) e) ∙ counts_on all_later t.third)

    pub right_with_item : change_of 1 r ≡ pos (suc (greatest_count all_later)) → is_of_index r ≡ false → changes_are_right tables (r ∷ items) ≡ true
    right_with_item e column =
        let t = three_true (length (filter (is_first 0) tables) == 1) (indexes_are_new items) (counts_up 1 (sorted int_cmp all_later)) right in
        all_three (length (filter (is_first 0) tables) == 1) (indexes_are_new (r ∷ items)) (counts_up 1 (sorted int_cmp (later_changes 0 tables ++ later_changes 1 (r ∷ items))))
        t.first
        (ap (λ (b : Bool). (not b || is_first 1 r) && indexes_are_new items) column ∙ t.second)
        (ap (λ (l : List ℤ). counts_up 1 (sorted int_cmp (later_changes 0 tables ++ l))) (later_with 1 r items (greatest_count all_later) e)
        ∙ ap (counts_up 1) (sorted_alike (later_changes 0 tables ++ pos (suc (greatest_count all_later)) ∷ later_changes 1 items) (pos (suc (greatest_count all_later)) ∷ all_later)
        (IsPermutation-middle (later_changes 0 tables) (pos (suc (greatest_count all_later))) (later_changes 1 items)))
        ∙ counts_on all_later t.third)

-- ---- what stays

module _ (r : Row) (items : List Row) where
  pub none_before_itself : rows_before (r ∷ items) r ≡ rows_before items r
  none_before_itself = ap (λ (b : Bool). if b then r ∷ rows_before items r else rows_before items r) (not_itself 1 r)

  follows_still : (q : Row) → IsAbove 1 r q → follows (r ∷ items) q ≡ follows items q
  follows_still q h =
      ap (λ (b : Bool). list_all (comes_before q) (if b then r ∷ rows_before items q else rows_before items q)
      && not (is_dropped q && length (if b then r ∷ rows_before items q else rows_before items q) == 0))
      (not_past 1 q r (omega (arith, ints, h)))

  all_still : (qs : List Row) → AllByRecursion (IsAbove 1 r) qs → list_all (follows items) qs ≡ true → list_all (follows (r ∷ items)) qs ≡ true
  all_still [] h e = refl
  all_still (q ∷ qs) h e =
      let p = and_true (follows items q) (list_all (follows items) qs) e in
      both_true (follows (r ∷ items) q) (list_all (follows (r ∷ items)) qs) (follows_still q h.0 ∙ p.0) (all_still qs h.1 p.1)

  all_left : (test : Row → Bool) (qs : List Row) → list_all (follows items) qs ≡ true → list_all (follows items) (filter test qs) ≡ true
  all_left test qs e = true_of_all (follows items) (filter test qs) (all_filter (λ x. follows items x ≡ true) test qs (all_true (follows items) qs e))

  pub follow_with : AllByRecursion (IsAbove 1 r) items → follows (r ∷ items) r ≡ true → items_follow items ≡ true → items_follow (r ∷ items) ≡ true
  follow_with h own e =
      ap (list_all (follows (r ∷ items))) (latest_with 1 r items h)
      ∙ both_true (follows (r ∷ items) r) (list_all (follows (r ∷ items)) (filter (isnt_same 1 r) (latest 1 items))) own
      (all_still (filter (isnt_same 1 r) (latest 1 items)) (all_filter (IsAbove 1 r) (isnt_same 1 r) (latest 1 items) (all_filter (IsAbove 1 r) (is_latest 1 items) items h))
      (all_left (isnt_same 1 r) (latest 1 items) e))

module _ (items : List Row) where
  -- what a row that counts says follows
  pub it_follows : items_follow items ≡ true → (q : Row) → In q (latest 1 items) → follows items q ≡ true
  it_follows e q i = holds_of (λ x. follows items x ≡ true) q (latest 1 items) (all_true (follows items) (latest 1 items) e) i

  pub before_it : (q x : Row) → follows items q ≡ true → In x items → is_past 1 q x ≡ true → comes_before q x ≡ true
  before_it q x f i e =
      let p = and_true (list_all (comes_before q) (rows_before items q)) (not (is_dropped q && length (rows_before items q) == 0)) f in
      holds_of (λ y. comes_before q y ≡ true) x (rows_before items q) (all_true (comes_before q) (rows_before items q) p.0) (passed_in (is_past 1 q) x items e i)
