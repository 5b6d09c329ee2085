-- What stands in a table after so many statements of its session.
use Rattle.std.proofs.Common.{◌≡◌, ◌∙◌, ◌<◌, ◌≤◌, ◌+◌, ◌*◌, ◌/◌, ◌%◌, ◌==◌, ℕ, suc, Bool, true, false, List, [], ◌∷◌, map, refl, ap, sym, subst, cond, arith}
use Rattle.std.specs.Prelude.{pos, is_none, is_some, if◌then◌else◌}
use Rattle.std.specs.List.{filter, AllByRecursion}
use Rattle.std.specs.Ordering.{is_eq, ordering_then}
use Rattle.std.specs.declared.cmp.Ordering.{Ordering}
use Rattle.std.specs.declared.cmp.Ordering.TheVariants.{Less, Equal, Greater}
use Rattle.std.proofs.lemmas.Bool.{and_parts}
use Rattle.std.proofs.lemmas.Bool.Decides.{nat_tests}
use Rattle.std.proofs.lemmas.Int.{ints}
use Rattle.sql_value.specs.Order.{value_cmp}
use Rattle.sql_value.proofs.Numbers.{raised_none}
use Rattle.sql_scalar.proofs.OrderLaws as order
use Rattle.sql_types.specs.declared.version.Version.{Version}
use Rattle.spec_model.specs.Keys.{same_key, key_cmp, version_key, of_key, has_live_row, has_live_row_at}
use Rattle.spec_model.specs.Lists.{inserted}
use Rattle.spec_model.specs.Rows.{EventId, same_event, start_cmp, with_end, number, stored_row, values_of}
use Rattle.spec_model.specs.Runs.{MadeBefore}
use Rattle.law_frame.proofs.Alls.{all_weaker, all_inserted, all_map}
use Rattle.workload_generator.specs.Workload.{value_of}
use Rattle.law_workload.specs.Statements.{row_with}
use Rattle.law_workload.specs.Tables.{second}
use Rattle.law_workload.specs.Turns.{inserted_total}
use Rattle.law_workload.proofs.Counted.{over, where_, over_inserted, only_inserted, one_ended}
use Rattle.law_workload.proofs.Inserts.{columns, key_is}
use Rattle.law_workload.proofs.Updates.{row_version, same_number}

-- of eleven statements ten insert a row each, and the last changes the tenth
abbrev pub rows_after : ℕ → ℕ
rows_after k = k / 11 * 10 + k % 11

-- ---- keys

is_one : (r : Ordering) → is_eq (ordering_then r Equal) ≡ true → r ≡ Equal
is_one Less h = cc
is_one Equal h = refl
is_one Greater h = cc

equal_numbers : (a b : ℕ) → value_cmp (number a) (number b) ≡ Equal → a ≡ b
equal_numbers a b e =
    let same = (order.equal (number a) (number b) (omega arith) (omega arith)).0 e in
    let whole : pos a ≡ pos b = sym (raised_none (pos a)) ∙ same ∙ raised_none (pos b) in
    omega (arith, ints, whole)

not_true : (t : Bool) → (t ≡ true → ⊥) → t ≡ false
not_true true h = absurd (h refl)
not_true false h = refl

apart : (a b : ℕ) → a < b → same_key (number a ∷ []) (number b ∷ []) ≡ false
unfolding same_key key_cmp
apart a b less = not_true _ (λ h. let same = equal_numbers a b (is_one (value_cmp (number a) (number b)) h) in omega (arith, less, same))

itself : (a : ℕ) → same_key (number a ∷ []) (number a ∷ []) ≡ true
unfolding same_key key_cmp
itself a = rw (same_number a) refl

-- ---- versions of rows below a number

pub record IsBelow (n : ℕ) (v : Version) : Type 0 where
  pub row : ℕ
  pub value : ℕ
  pub less : row < n
  pub are : v.values ≡ stored_row columns (row_with row value)

below_more : (n m : ℕ) → n ≤ m → (v : Version) → IsBelow n v → IsBelow m v
below_more n m le v b = record { row = b.row; value = b.value; less = omega (arith, le, b.less); are = b.are }

key_of_row : (v : Version) (row value : ℕ) → v.values ≡ stored_row columns (row_with row value) → version_key columns v ≡ number row ∷ []
key_of_row v row value are = rw are (key_is row value)

other_key : (n : ℕ) (v : Version) → IsBelow n v → same_key (version_key columns v) (number n ∷ []) ≡ false
other_key n v b = rw (key_of_row v b.row b.value b.are) (apart b.row n b.less)

pub no_key : (n : ℕ) (V : List Version) → AllByRecursion (IsBelow n) V → of_key columns (number n ∷ []) V ≡ []
no_key n [] all = refl
no_key n (v ∷ V) all = rw (other_key n v all.0) (no_key n V all.1)

pub none_is_live : (n : ℕ) (V : List Version) → AllByRecursion (IsBelow n) V → has_live_row columns (number n ∷ []) V ≡ false
unfolding has_live_row_at
none_is_live n V all = rw (no_key n V all) refl

-- ---- events of a new transaction

abbrev pub IsNew : ℕ → List Version → Type 0
IsNew tx V = AllByRecursion (MadeBefore tx 0) V

other_event : (tx : ℕ) (v : Version) → MadeBefore tx 0 v → same_event v.start (tx, 0) ≡ false
other_event tx v made = not_true _ (λ h.
    let both = and_parts (v.start.0 == tx) (v.start.1 == 0) h in
    let own : v.start.0 ≡ tx = grind (arith, nat_tests, both.0) in
    let less = made.start own in
    omega (arith, less))

no_start : (tx : ℕ) (V : List Version) → IsNew tx V → filter (λ v. same_event v.start (tx, 0)) V ≡ []
no_start tx [] all = refl
no_start tx (v ∷ V) all = rw (other_event tx v all.0) (no_start tx V all.1)

same_number_twice : (n : ℕ) → (n == n) ≡ true
same_number_twice n = grind (arith, nat_tests)

own_event : (tx n : ℕ) → same_event (tx, n) (tx, n) ≡ true
own_event tx n = rw (same_number_twice tx, same_number_twice n) refl

-- ---- the table after so many statements

abbrev pub one_live : Version → ℕ
one_live v = where_ (is_none v.end) 1

abbrev pub one_ended_row : Version → ℕ
one_ended_row v = where_ (is_some v.end) 1

abbrev pub live_amount : Version → ℕ
live_amount v = where_ (is_none v.end) (second (values_of v))

-- the row is there once, and no other version has its start
pub record IsNewest (row value : ℕ) (V : List Version) : Type 0 where
  pub start : EventId
  pub of_its_key : of_key columns (number row ∷ []) V ≡ row_version row value start ∷ []
  pub of_its_start : filter (λ v. same_event v.start start) V ≡ row_version row value start ∷ []

pub record After (table k : ℕ) (V : List Version) : Type 0 where
  pub below : AllByRecursion (IsBelow (rows_after k)) V
  pub rows : over one_live V ≡ rows_after k
  pub changed : over one_ended_row V ≡ k / 11
  pub amount : over live_amount V ≡ inserted_total table (rows_after k) + k / 11
  pub newest : k % 11 ≡ 10 → IsNewest (k / 11 * 10 + 9) (value_of table (k / 11 * 10 + 9)) V

pub at_first : (table : ℕ) → After table 0 []
at_first table = record { below = tt; rows = refl; changed = refl; amount = refl; newest = λ h. absurd (omega (arith, h)) }

-- ---- a row is inserted

abbrev pub with_row : ℕ → ℕ → ℕ → List Version → List Version
with_row tx row value V = inserted start_cmp (row_version row value (tx, 0)) V

newly : (tx row value : ℕ) (V : List Version) → AllByRecursion (IsBelow row) V → IsNew tx V → IsNewest row value (with_row tx row value V)
newly tx row value V all new =
    record {
      start = (tx, 0);
      of_its_key = only_inserted (λ v. same_key (version_key columns v) (number row ∷ [])) start_cmp (row_version row value (tx, 0)) V
          (rw (key_of_row (row_version row value (tx, 0)) row value refl) (itself row)) (no_key row V all);
      of_its_start = only_inserted (λ v. same_event v.start (tx, 0)) start_cmp (row_version row value (tx, 0)) V (own_event tx 0) (no_start tx V new);
    }

pub after_insert : (table k tx : ℕ) (V : List Version) → k % 11 < 10 → After table k V → IsNew tx V → After table (suc k) (with_row tx (rows_after k) (value_of table (rows_after k)) V)
after_insert table k tx V place h new =
    let row = rows_after k in
    let value = value_of table row in
    let more : rows_after (suc k) ≡ suc row = omega (arith, place) in
    let quotient : suc k / 11 ≡ k / 11 = omega (arith, place) in
    let own : IsBelow (rows_after (suc k)) (row_version row value (tx, 0)) = record { row = row; value = value; less = omega (arith, more); are = refl } in
    let others = all_weaker (IsBelow row) (IsBelow (rows_after (suc k))) (below_more row (rows_after (suc k)) (omega (arith, more))) V h.below in
    let total : inserted_total table (rows_after (suc k)) ≡ inserted_total table row + value = ap (inserted_total table) more in
    let at_row : suc k % 11 ≡ 10 → row ≡ suc k / 11 * 10 + 9 = λ last. omega (arith, last, place) in
    record {
      below = all_inserted (IsBelow (rows_after (suc k))) start_cmp (row_version row value (tx, 0)) V own others;
      rows = over_inserted one_live start_cmp (row_version row value (tx, 0)) V ∙ omega (arith, h.rows, more);
      changed = over_inserted one_ended_row start_cmp (row_version row value (tx, 0)) V ∙ omega (arith, h.changed, quotient);
      amount = over_inserted live_amount start_cmp (row_version row value (tx, 0)) V ∙ omega (arith, h.amount, total, quotient);
      newest = λ last. subst (λ j. IsNewest j (value_of table j) (with_row tx row value V)) (at_row last) (newly tx row value V h.below new);
    }

-- ---- a row is changed

abbrev pub with_change : ℕ → ℕ → ℕ → EventId → List Version → List Version
with_change tx row value start V = inserted start_cmp (row_version row value (tx, 1)) (map (λ v. if same_event v.start start then with_end (tx, 0) v else v) V)

end_below : (n : ℕ) (at : EventId) (p : Bool) (v : Version) → IsBelow n v → IsBelow n (cond p (with_end at v) v)
end_below n at true v b = record { row = b.row; value = b.value; less = b.less; are = b.are }
end_below n at false v b = b

pub after_update : (table k tx : ℕ) (V : List Version) → k % 11 ≡ 10 → After table k V
    → (n : IsNewest (k / 11 * 10 + 9) (value_of table (k / 11 * 10 + 9)) V)
    → After table (suc k) (with_change tx (k / 11 * 10 + 9) (value_of table (k / 11 * 10 + 9) + 1) n.start V)
after_update table k tx V place h n =
    let row = k / 11 * 10 + 9 in
    let value = value_of table row in
    let old = row_version row value n.start in
    let new = row_version row (value + 1) (tx, 1) in
    let same : rows_after (suc k) ≡ rows_after k = omega (arith, place) in
    let quotient : suc k / 11 ≡ k / 11 + 1 = omega (arith, place) in
    let at = λ (f : Version → ℕ). one_ended (tx, 0) n.start f old V n.of_its_start in
    let rest = map (λ (v : Version). if same_event v.start n.start then with_end (tx, 0) v else v) V in
    let all = subst (λ m. AllByRecursion (IsBelow m) V) (sym same) h.below in
    let own : IsBelow (rows_after (suc k)) new = record { row = row; value = value + 1; less = omega (arith, place); are = refl } in
    let total : inserted_total table (rows_after (suc k)) ≡ inserted_total table (rows_after k) = ap (inserted_total table) same in
    record {
      below = all_inserted (IsBelow (rows_after (suc k))) start_cmp new rest own
          (all_map (IsBelow (rows_after (suc k))) (IsBelow (rows_after (suc k))) (λ v. if same_event v.start n.start then with_end (tx, 0) v else v)
          (λ v b. end_below (rows_after (suc k)) (tx, 0) (same_event v.start n.start) v b) V all);
      rows = over_inserted one_live start_cmp new rest ∙ omega (arith, at one_live, h.rows, same);
      changed = over_inserted one_ended_row start_cmp new rest ∙ omega (arith, at one_ended_row, h.changed, quotient);
      amount = over_inserted live_amount start_cmp new rest ∙ omega (arith, at live_amount, h.amount, total, quotient);
      newest = λ last. absurd (omega (arith, last, place));
    }
