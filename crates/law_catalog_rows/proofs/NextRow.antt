-- Where the rows about a table spell its definition, they do so in any order, and with the row of ALTER TABLE or
-- DROP TABLE they spell the definition that takes its place.
use Rattle.std.proofs.Common.{◌≡◌, ◌≤◌, ◌<◌, ◌+◌, ℕ, zero, suc, ℤ, pos, negsuc, inl, inr, refl, sym, ap, subst, ◌∙◌, Bool, true, false, List, [], ◌∷◌, ◌++◌, map, length, Some, None, arith}
use Rattle.std.proofs.lemmas.Bool.{eqb-true, eqb-false, ne_eqb}
use Rattle.std.proofs.lemmas.Int.{ints}
use Rattle.std.proofs.lemmas.List.{map-append}
use Rattle.std.proofs.lemmas.List.Sorted.{IsPermutation-trans, list_any-IsPermutation}
use Rattle.std.specs.Prelude.{◌==◌, ◌&&◌, ◌⊎◌, ◌<ℤ◌, max, not, if◌then◌else◌, slice_get}
use Rattle.std.specs.List.{AllByRecursion, list_all, filter}
use Rattle.std.specs.List.Sorted.{IsPermutation}
use Rattle.std.specs.Ordering.{int_cmp, int_eq, is_gt}
use Rattle.sql_value.specs.declared.column.ColumnDef.{ColumnDef}
use Rattle.sql_value.specs.TypeCodes.{type_code, first_parameter, second_parameter}
use Rattle.sql_value.specs.declared.value.Value.{Value}
use Rattle.sql_value.specs.declared.value.Value.TheVariants.{Null, Num, Text, Bytes, Date}
use Rattle.sql_types.specs.declared.table.TableDef.{TableDef}
use Rattle.sql_types.specs.declared.version.Version.{Version}
use Rattle.spec_model.specs.Alter.{count_in, count_at, changes_at, next_change, column_to_add, with_added, added_to, with_dropped, dropped_column, dropped_table}
use Rattle.spec_model.specs.Keys.{value_at}
use Rattle.spec_model.specs.LiveColumns.{is_dropped}
use Rattle.spec_model.specs.Lists.{greatest}
use Rattle.spec_model.specs.Rows.{Row, values_of, live}
use Rattle.spec_model.specs.SystemTables.{column_row_with, changed_table_row, changed_column_row}
use Rattle.law_frame.proofs.SameKeys.{and_true}
use Rattle.law_catalog_rows.specs.Changes.{same_type, position_in, is_dropped as says_dropped, position_before, comes_before, rows_before, follows, items_follow, later_changes, changes_are_right}
use Rattle.law_catalog_rows.specs.Encoded.{live_rows, is_about, about, latest_table_row, latest_item_rows, position_in_row, EncodeDef}
use Rattle.law_catalog_rows.specs.Latest.{number_in, number_at, same_number, change_of, is_past, without_change, latest_said}
use Rattle.law_catalog_rows.proofs.AnyOrder.{encoded_alike, filter_same, three_true, all_three}
use Rattle.law_catalog_rows.proofs.CountingUp.{one_number, is_number, other_number, isnt_greater, both_true, count_of, greatest_count, greatest_of_both, greatest_later}
use Rattle.law_catalog_rows.proofs.ItemRows.{IsOther, new_item, others_stay, items_added, Says, SaysWhereAbout, items_say, one_is_about, items_dropped, is_dropped_then}
use Rattle.law_catalog_rows.proofs.OneRowMore.{and_false, In, past, holds_of_all, none_passes, all_that_pass, Counting, counting, it_counts, it_says, about_one, said_at, said_number, isnt_same, said_with, before_some, some_about, all_later, right_with_table, right_with_item, none_before_itself, follow_with, it_follows, before_it}

-- ---- the next change

-- the changes of the rows about a table, which stand at this place
abbrev pub changes_in : ℕ → ℕ → List Row → List ℕ
changes_in place id rows = map (λ row. count_in (value_at row place)) (filter (λ row. count_in (value_at row 0) == id) rows)

-- one above the greatest change of a table in the rows of both system tables
abbrev pub next_change_in : ℕ → List Row → List Row → ℕ
next_change_in id first second = suc (greatest (changes_in 1 id first ++ changes_in 2 id second))

all_live : (vs : List Version) → AllByRecursion (λ v. v.end ≡ None) vs → live vs ≡ vs
all_live [] h = refl
all_live (v ∷ vs) h = rw (h.0, all_live vs h.1) refl

changes_of_rows : (place id : ℕ) (vs : List Version) → changes_at place id vs ≡ changes_in place id (map values_of vs)
changes_of_rows place id [] = refl
changes_of_rows place id (v ∷ vs) = here (count_at 0 v == id) (changes_of_rows place id vs)
  where
    here : (b : Bool) → changes_at place id vs ≡ changes_in place id (map values_of vs)
        → map (count_at place) (if b then v ∷ filter (λ w. count_at 0 w == id) vs else filter (λ w. count_at 0 w == id) vs)
        ≡ map (λ row. count_in (value_at row place)) (if b then values_of v ∷ filter (λ row. count_in (value_at row 0) == id) (map values_of vs) else filter (λ row. count_in (value_at row 0) == id) (map values_of vs))
    here true h = ap (λ (l : List ℕ). count_at place v ∷ l) h
    here false h = h

live_changes : (place id : ℕ) (vs : List Version) → AllByRecursion (λ v. v.end ≡ None) vs → changes_at place id vs ≡ changes_in place id (live_rows vs)
live_changes place id vs h = changes_of_rows place id vs ∙ ap (λ (l : List Version). changes_in place id (map values_of l)) (sym (all_live vs h))

-- that is the next change where all versions of both stand
pub next_of_rows : (id : ℕ) (V W : List Version) → AllByRecursion (λ v. v.end ≡ None) V → AllByRecursion (λ v. v.end ≡ None) W
    → next_change id V W ≡ next_change_in id (live_rows V) (live_rows W)
unfolding next_change
next_of_rows id V W v w =
    ap (λ (l : List ℕ). suc (greatest (l ++ changes_at 2 id W))) (live_changes 1 id V v)
    ∙ ap (λ (l : List ℕ). suc (greatest (changes_in 1 id (live_rows V) ++ l))) (live_changes 2 id W w)

-- ---- that change is above the others

count_is : (v : Value) → count_in v ≡ count_of (number_in v)
count_is Null = refl
count_is (Num s (pos n)) = refl
count_is (Num s (negsuc n)) = refl
count_is (Text t) = refl
count_is (Bytes b) = refl
count_is (Date d) = refl

same_count : (m n : ℕ) → (m == n) ≡ int_eq (pos m) (pos n)
same_count m n = here (m == n) refl
  where
    here : (b : Bool) → (m == n) ≡ b → (m == n) ≡ int_eq (pos m) (pos n)
    here true e = e ∙ sym (is_number (pos m) (pos n) (ap (λ (j : ℕ). pos j) (eqb-true m n e)))
    here false e = e ∙ sym (other_number (pos m) (pos n) (λ f. eqb-false m n e (omega (arith, ints, f))))

isnt_zero : (id : ℕ) → 1 ≤ id → (0 == id) ≡ false
isnt_zero id le = ne_eqb 0 id (λ e. omega (arith, e, le))

counted_about : (id : ℕ) → 1 ≤ id → (row : Row) → (count_in (value_at row 0) == id) ≡ is_about (pos id) row
counted_about id le [] = isnt_zero id le
counted_about id le (Null ∷ vs) = isnt_zero id le
counted_about id le (Num s (pos n) ∷ vs) = same_count n id
counted_about id le (Num s (negsuc n) ∷ vs) = isnt_zero id le ∙ sym (other_number (negsuc n) (pos id) (λ e. omega (arith, ints, e)))
counted_about id le (Text t ∷ vs) = isnt_zero id le
counted_about id le (Bytes b ∷ vs) = isnt_zero id le
counted_about id le (Date d ∷ vs) = isnt_zero id le

counts_same : (k : ℕ) (rows : List Row) → map (λ row. count_in (value_at row (k + 1))) rows ≡ map count_of (map (change_of k) rows)
counts_same k [] = refl
counts_same k (r ∷ rs) = rw (count_is (value_at r (k + 1)), counts_same k rs) refl

changes_about : (k id : ℕ) → 1 ≤ id → (rows : List Row) → changes_in (k + 1) id rows ≡ map count_of (map (change_of k) (about (pos id) rows))
changes_about k id le rows =
    ap (map (λ row. count_in (value_at row (k + 1)))) (filter_same (λ row. count_in (value_at row 0) == id) (is_about (pos id)) rows (counted_about id le))
    ∙ counts_same k (about (pos id) rows)

below : (z : ℤ) (n : ℕ) → count_of z ≤ n → z <ℤ pos (suc n)
below (pos m) n le = omega (arith, ints, le)
below (negsuc m) n le = omega (arith, ints)

each_below : (k : ℕ) (rows : List Row) (n : ℕ) → greatest_count (map (change_of k) rows) ≤ n → AllByRecursion (λ q. change_of k q <ℤ pos (suc n)) rows
each_below k [] n le = tt
each_below k (r ∷ rs) n le =
    let m : max (count_of (change_of k r)) (greatest_count (map (change_of k) rs)) ≤ n = le in
    (below (change_of k r) n (omega (arith, m)), each_below k rs n (omega (arith, m)))

-- ---- any order

pub encoded_in_any_order : (first first' second second' : List Row) → IsPermutation first' first → IsPermutation second' second
    → (def : TableDef) → EncodeDef first second def → EncodeDef first' second' def
encoded_in_any_order first first' second second' p q def h = encoded_alike first first' second second' p q def h

-- ---- one row more

module _ (first second : List Row) (def : TableDef) (id : 1 ≤ def.id) (h : EncodeDef first second def) where
  abbrev tables : List Row
  tables = about (pos def.id) first

  abbrev items : List Row
  items = about (pos def.id) second

  abbrev next : ℕ
  next = next_change_in def.id first second

  greatest_is : greatest (changes_in 1 def.id first ++ changes_in 2 def.id second) ≡ max (greatest_count (map (change_of 0) tables)) (greatest_count (map (change_of 1) items))
  greatest_is =
      ap (λ (l : List ℕ). greatest (l ++ changes_in 2 def.id second)) (changes_about 0 def.id id first)
      ∙ ap (λ (l : List ℕ). greatest (map count_of (map (change_of 0) tables) ++ l)) (changes_about 1 def.id id second)
      ∙ ap greatest (sym (map-append count_of (map (change_of 0) tables) (map (change_of 1) items)))
      ∙ greatest_of_both (map (change_of 0) tables) (map (change_of 1) items)

  pub above_tables : AllByRecursion (λ q. change_of 0 q <ℤ pos next) tables
  above_tables = each_below 0 tables (greatest (changes_in 1 def.id first ++ changes_in 2 def.id second)) (omega (arith, greatest_is))

  pub above_items : AllByRecursion (λ q. change_of 1 q <ℤ pos next) items
  above_items = each_below 1 items (greatest (changes_in 1 def.id first ++ changes_in 2 def.id second)) (omega (arith, greatest_is))

  next_is : pos next ≡ pos (suc (greatest_count (all_later tables items)))
  next_is = ap (λ (n : ℕ). pos (suc n)) (
      greatest_is
      ∙ ap (λ (n : ℕ). max n (greatest_count (map (change_of 1) items))) (sym (greatest_later (map (change_of 0) tables)))
      ∙ ap (max (greatest_count (later_changes 0 tables))) (sym (greatest_later (map (change_of 1) items)))
      ∙ sym (greatest_of_both (later_changes 0 tables) (later_changes 1 items)))

  about_own : (row : Row) (rows : List Row) → is_about (pos def.id) row ≡ true → about (pos def.id) (row ∷ rows) ≡ row ∷ about (pos def.id) rows
  about_own row rows e = ap (λ (b : Bool). if b then row ∷ about (pos def.id) rows else about (pos def.id) rows) e

  -- ---- a row of a column

  -- what the definition's rows say of an item, all rows about it say
  said_of : (P : Row → Type 0) → AllByRecursion P (latest_item_rows def) → (x : Row) → In x items → P (without_change 1 (counting 1 items x).row)
  said_of P all x i = it_says 1 P items (latest_item_rows def) h.items all x i (counting 1 items x)

  number_said : (x : Row) → number_at 1 (without_change 1 (counting 1 items x).row) ≡ number_at 1 x
  number_said x = said_number 1 (counting 1 items x).row ∙ about_one 1 items x (counting 1 items x)

  module _ (o : ℕ) (d : ColumnDef) (z : ℤ) (few : o < 1000) where
    abbrev row : Row
    row = column_row_with next z def.id (o, d)

    items_now : about (pos def.id) (row ∷ second) ≡ row ∷ items
    items_now = about_own row second (is_number (pos def.id) (pos def.id) refl)

    items_with : (wanted : List Row) → IsPermutation (without_change 1 row ∷ filter (isnt_same 1 row) (latest_item_rows def)) wanted → IsPermutation (latest_said 1 (about (pos def.id) (row ∷ second))) wanted
    items_with wanted p =
        subst (λ (l : List Row). IsPermutation (latest_said 1 l) wanted) (sym items_now)
        (IsPermutation-trans (latest_said 1 (row ∷ items)) (without_change 1 row ∷ filter (isnt_same 1 row) (latest_item_rows def)) wanted
        (said_with 1 row items (latest_item_rows def) above_items h.items) p)

    changes_with : changes_are_right tables (about (pos def.id) (row ∷ second)) ≡ true
    changes_with =
        ap (changes_are_right tables) items_now
        ∙ right_with_item tables items row h.changes next_is (isnt_greater (pos o) (pos 1000) (omega (arith, ints, few)))

    follow_if : follows (row ∷ items) row ≡ true → items_follow (about (pos def.id) (row ∷ second)) ≡ true
    follow_if e = ap items_follow items_now ∙ follow_with row items above_items e h.follow

  -- ALTER TABLE ADD: the new column gets the next ordinal
  pub with_added_encoded : (c : ColumnDef) → length def.columns ≤ 63 → is_dropped def (suc (length def.columns)) ≡ false
      → EncodeDef first (changed_column_row (next_change_in def.id first second) (added_to def c).0 (added_to def c).1 ∷ second) (added_to def c).0
  unfolding changed_column_row latest_table_row
  with_added_encoded c few new =
      let o : ℕ = suc (length def.columns) in
      let d : ColumnDef = column_to_add c in
      let z : ℤ = position_in_row (with_added def c) (o, d) in
      let lt : o < 1000 = omega (arith, few) in
      let r : Row = row o d z lt in
      let others : AllByRecursion (IsOther o) (latest_item_rows def) = new_item def o (omega arith) lt in
      let none : rows_before items r ≡ [] = none_passes (is_past 1 r) items (holds_of_all (λ x. is_past 1 r x ≡ false) items (λ x i.
      ap (λ (b : Bool). b && is_gt (int_cmp (change_of 1 r) (change_of 1 x))) (other_number (pos o) (number_at 1 x) (λ e. said_of (IsOther o) others x i (number_said x ∙ sym e))))) in
      record {
        table = h.table;
        items = items_with o d z lt (latest_item_rows (with_added def c))
            (subst (λ (l : List Row). IsPermutation (without_change 1 r ∷ l) (latest_item_rows (with_added def c))) (sym (others_stay r o refl (latest_item_rows def) others)) (items_added def c));
        changes = changes_with o d z lt;
        follow = follow_if o d z lt (
            ap (λ (l : List Row). list_all (comes_before r) l && not (says_dropped r && length l == 0)) (none_before_itself r items ∙ none)
            ∙ ap (λ (b : Bool). not (int_eq (if b then negsuc 0 else pos 0) (negsuc 0) && true)) new);
      }

  module _ (p : ℕ × ColumnDef) where
    abbrev SaysColumn : Row → Type 0
    SaysColumn x = Says def p.0 p.1 x

    within : (cs : List ColumnDef) (i : ℕ) → slice_get cs i ≡ Some p.1 → i < length cs
    within [] i e = cc
    within (c ∷ cs) zero e = omega arith
    within (c ∷ cs) (suc i) e = omega (arith, within cs i e)

    -- a row that counts says what is before it
    says_before : (q x : Row) → SaysColumn q → comes_before q x ≡ true → SaysColumn x
    says_before q x s e =
        let b = and_true (same_type x q) (int_eq (position_in x) (position_before q)) e in
        let t = three_true (same_number 4 x q) (same_number 5 x q) (same_number 6 x q) b.0 in
        record {
          code = one_number (number_at 4 x) (number_at 4 q) t.first ∙ s.code;
          first = one_number (number_at 5 x) (number_at 5 q) t.second ∙ s.first;
          second = one_number (number_at 6 x) (number_at 6 q) t.third ∙ s.second;
          position = one_number (position_in x) (position_before q) b.1 ∙ none (says_dropped q);
        }
      where
        none : (b : Bool) → (if b then pos 0 else position_in q) ≡ pos 0
        none true = refl
        none false = s.position

    -- where those that count say it of the column, all rows about it do
    all_say : AllByRecursion (SaysWhereAbout def p.0 p.1) (latest_item_rows def) → (x : Row) → In x items → number_at 1 x ≡ pos (suc p.0) → SaysColumn x
    all_say all x i e = here c.among
      where
        c : Counting 1 items x
        c = counting 1 items x

        of_it : SaysColumn c.row
        of_it =
            let s : SaysColumn (without_change 1 c.row) = said_of (SaysWhereAbout def p.0 p.1) all x i (number_said x ∙ e) in
            record {
              code = sym (said_at 1 c.row 4 (λ k. omega (arith, k))) ∙ s.code;
              first = sym (said_at 1 c.row 5 (λ k. omega (arith, k))) ∙ s.first;
              second = sym (said_at 1 c.row 6 (λ k. omega (arith, k))) ∙ s.second;
              position = sym (said_at 1 c.row 8 (λ k. omega (arith, k))) ∙ s.position;
            }

        here : (c.row ≡ x) ⊎ (In c.row items × (is_past 1 c.row x ≡ true)) → SaysColumn x
        here (inl same) = subst SaysColumn same of_it
        here (inr q) = says_before c.row x of_it (before_it items c.row x (it_follows items h.follow c.row (it_counts 1 items x i c)) i q.1)

    has_type : (x r : Row) → SaysColumn x → number_at 4 r ≡ pos (type_code p.1.ty) → number_at 5 r ≡ pos (first_parameter p.1.ty) → number_at 6 r ≡ pos (second_parameter p.1.ty) → same_type x r ≡ true
    has_type x r s code first_is second_is =
        all_three (same_number 4 x r) (same_number 5 x r) (same_number 6 x r) (is_number (number_at 4 x) (number_at 4 r) (s.code ∙ sym code))
        (is_number (number_at 5 x) (number_at 5 r) (s.first ∙ sym first_is)) (is_number (number_at 6 x) (number_at 6 r) (s.second ∙ sym second_is))

  -- ALTER TABLE DROP COLUMN: the column stands and isn't in the key
  pub with_dropped_encoded : (p : ℕ × ColumnDef) → length def.columns ≤ 64 → slice_get def.columns p.0 ≡ Some p.1 → is_dropped def (suc p.0) ≡ false → p.1.key_position ≡ 0
      → EncodeDef first (changed_column_row (next_change_in def.id first second) (with_dropped def p) (suc p.0, dropped_column (suc p.0) p.1) ∷ second) (with_dropped def p)
  unfolding changed_column_row latest_table_row
  with_dropped_encoded p few at stands no_key =
      let o : ℕ = suc p.0 in
      let d : ColumnDef = dropped_column o p.1 in
      let z : ℤ = position_in_row (with_dropped def p) (o, d) in
      let lt : o < 1000 = omega (arith, few, within p def.columns p.0 at) in
      let r : Row = row o d z lt in
      let minus : z ≡ negsuc 0 = ap (λ (b : Bool). if b then negsuc 0 else pos p.1.key_position) (is_dropped_then def p.0 p.1) in
      let before : (x : Row) → In x items → is_past 1 r x ≡ true → comes_before r x ≡ true = λ x i e.
      (let s : Says def p.0 p.1 x = all_say p (items_say def p.0 p.1 stands no_key at lt) x i (sym (past 1 r x e).0) in
      both_true (same_type x r) (int_eq (position_in x) (position_before r)) (has_type p x r s refl refl refl) (is_number (position_in x) (position_before r) (s.position ∙ sym (ap (λ (n : ℤ). if int_eq n (negsuc 0) then pos 0 else n) minus)))) in
      record {
        table = h.table;
        items = items_with o d z lt (latest_item_rows (with_dropped def p)) (items_dropped def p.0 p.1 r refl at lt);
        changes = changes_with o d z lt;
        follow = follow_if o d z lt (both_true (list_all (comes_before r) (rows_before (r ∷ items) r)) (not (says_dropped r && length (rows_before (r ∷ items) r) == 0))
            (ap (list_all (comes_before r)) (none_before_itself r items) ∙ all_that_pass (is_past 1 r) (comes_before r) items before)
            (ap (λ (b : Bool). not (says_dropped r && b)) (before_some 1 r items above_items (some_about 1 r items (list_any-IsPermutation (same_number 1 r) (latest_said 1 items) (latest_item_rows def) h.items ∙ one_is_about def p.0 p.1 r refl at)))
            ∙ ap not (and_false (says_dropped r))));
      }

  -- DROP TABLE
  pub dropped_encoded : EncodeDef (changed_table_row (next_change_in def.id first second) (dropped_table def) ∷ first) second (dropped_table def)
  unfolding changed_table_row dropped_table latest_table_row latest_item_rows
  dropped_encoded =
      let r : Row = changed_table_row next (dropped_table def) in
      let now : about (pos def.id) (r ∷ first) ≡ r ∷ tables = about_own r first (is_number (pos def.id) (pos def.id) refl) in
      let same : filter (isnt_same 0 r) (latest_table_row def ∷ []) ≡ [] = ap (λ (b : Bool). if not b then latest_table_row def ∷ [] else []) (is_number (pos def.id) (pos def.id) refl) in
      record {
        table = subst (λ (l : List Row). IsPermutation (latest_said 0 l) (latest_table_row (dropped_table def) ∷ [])) (sym now)
            (subst (λ (l : List Row). IsPermutation (latest_said 0 (r ∷ tables)) (latest_table_row (dropped_table def) ∷ l)) same
            (said_with 0 r tables (latest_table_row def ∷ []) above_tables h.table));
        items = h.items;
        changes = ap (λ (l : List Row). changes_are_right l items) now ∙ right_with_table tables items r h.changes next_is;
        follow = h.follow;
      }
