-- Of each column of a table of a legal journal a row says that it was created or added, and of a dropped one another says
-- so.
use Rattle.std.proofs.Common.{◌≡◌, ◌≢◌, ◌≤◌, ◌<◌, ◌⊎◌, ℕ, ℤ, zero, suc, pos, ◌+◌, inl, inr, refl, sym, ap, subst, ◌∙◌, arith, Bool, true, false, List, [], ◌∷◌, ◌++◌, map, length, Some, append_assoc, append-nil, length-append}
use Rattle.std.proofs.lemmas.Bool.{eq-eqb, eqb-false, leb-true, ne_eqb}
use Rattle.std.proofs.lemmas.Cmp.{tied_itself}
use Rattle.std.proofs.lemmas.Int.{ints}
use Rattle.std.proofs.lemmas.List.{length-set}
use Rattle.std.proofs.lemmas.List.Sorted.{IsPermutation-cons, IsPermutation-refl, IsPermutation-sym, IsPermutation-trans, IsPermutation-middle}
use Rattle.std.proofs.lemmas.Option.{slice_get_within}
use Rattle.std.specs.Prelude.{◌&&◌, ◌||◌, ◌==◌, ◌<ℤ◌, ◌≤ℤ◌, not, nat_le, nat_lt, if◌then◌else◌, slice_get, slice_set}
use Rattle.std.specs.List.{AllByRecursion, list_all}
use Rattle.std.specs.List.Sorted.{IsPermutation}
use Rattle.std.specs.Ordering.{int_eq, is_eq, is_gt, nat_cmp}
use Rattle.sql_value.specs.Stored.{is_in_range}
use Rattle.sql_value.specs.Order.{value_total}
use Rattle.sql_value.specs.declared.column.ColumnDef.{ColumnDef}
use Rattle.sql_value.specs.declared.value.Value.{Value}
use Rattle.sql_value.specs.declared.value.Value.TheVariants.{Text}
use Rattle.sql_types.specs.declared.table.TableDef.{TableDef}
use Rattle.spec_model.specs.Alter.{added_to, column_to_add, dropped_column, dropped_column_name, dropped_from, dropped_table}
use Rattle.spec_model.specs.Create.{is_ledger_name}
use Rattle.spec_model.specs.ProperNames.{is_proper_name}
use Rattle.spec_model.specs.Keys.{value_at}
use Rattle.spec_model.specs.Lists.{inserted, is_among, numbered, rise_within}
use Rattle.spec_model.specs.SystemTables.{column_row, column_rows, changed_column_row}
use Rattle.law_frame.proofs.Alls.{all_weaker}
use Rattle.law_frame.proofs.Alterations.{Live}
use Rattle.law_frame.proofs.SameKeys.{and_true, or_false}
use Rattle.law_catalog_rows.specs.Encoded.{IsAmong}
use Rattle.law_catalog_rows.specs.IsEncodableDef.{is_encodable_column, is_encodable_def}
use Rattle.law_catalog_rows.specs.Latest.{change_of}
use Rattle.law_catalog_rows.proofs.CountingUp.{is_number, other_number}
use Rattle.law_catalog_rows.proofs.Defs.{of_among}
use Rattle.spec_rules.specs.Places.{EventPlace, PlacedRow, stands_before}
use Rattle.spec_rules.specs.Rows.{columns_about, firsts, item_of, same_value, tables_about}
use Rattle.spec_rules.specs.Columns.{columns_are_right, drops_column, is_new_column}
use Rattle.spec_rules.specs.OrderOfChanges.{rises_by_ordinal}
use Rattle.law_rules.specs.Steps.{Catalog, placed_from}
use Rattle.law_rules.proofs.ColumnHistory.{IsHistory, of_item, none_pass, columns_right, ordinals_rise}
use Rattle.law_rules.proofs.InOrder.{not_true, or_second}
use Rattle.law_rules.proofs.Orders.{of_any_order}
use Rattle.law_rules.proofs.TableByTable.{AreBelow, EachKeeps, IsNewTable, OfEach, OfOne, column_changed}

-- ---- what is told of the columns of a table

-- one row is about the column, and names it
pub record IsNamed (rows : List PlacedRow) (n : ℕ) (name : List ℕ) : Type 0 where
  pub row : PlacedRow
  pub one : of_item (pos n) rows ≡ row ∷ []
  pub says : value_at row.row 3 ≡ Text name

-- of the rows, the latest first, of the columns and of the ordinals of those that were dropped
pub record Told (rows : List PlacedRow) (columns : List ColumnDef) (dropped : List ℕ) : Type 0 where
  pub history : IsHistory rows
  pub within : AllByRecursion (λ (r : PlacedRow). item_of r ≤ℤ pos (length columns)) rows
  pub live : (i : ℕ) (c : ColumnDef) → slice_get columns i ≡ Some c → is_among dropped (suc i) ≡ false → IsNamed rows (suc i) c.name

pub record ColumnsTold (tables columns : List PlacedRow) (def : TableDef) : Type 0 where
  pub rows : List PlacedRow
  pub same : IsPermutation columns rows
  pub told : Told rows def.columns def.dropped

-- ---- lists

abbrev LastOrBefore : List ColumnDef → ColumnDef → ℕ → ColumnDef → Type 0
LastOrBefore cs c i d = ((i < length cs) × (slice_get cs i ≡ Some d)) ⊎ ((i ≡ length cs) × (c ≡ d))

last_or_before : (cs : List ColumnDef) (c : ColumnDef) (i : ℕ) (d : ColumnDef) → slice_get (cs ++ c ∷ []) i ≡ Some d → LastOrBefore cs c i d
last_or_before [] c zero d e = inr (refl, cc)
last_or_before [] c (suc i) d e = cc
last_or_before (b ∷ cs) c zero d e = inl (omega arith, e)
last_or_before (b ∷ cs) c (suc i) d e = elim (last_or_before cs c i d e) [ inl p ↦ (let lt = p.0 in inl (omega (arith, lt), p.1)) | inr p ↦ inr (ap (λ (n : ℕ). suc n) p.0, p.1) ]

set_elsewhere : (cs : List ColumnDef) (i j : ℕ) (d : ColumnDef) → (i ≡ j → ⊥) → slice_get (slice_set cs i d) j ≡ slice_get cs j
set_elsewhere [] i j d ne = refl
set_elsewhere (c ∷ cs) zero zero d ne = absurd (ne refl)
set_elsewhere (c ∷ cs) zero (suc j) d ne = refl
set_elsewhere (c ∷ cs) (suc i) zero d ne = refl
set_elsewhere (c ∷ cs) (suc i) (suc j) d ne = set_elsewhere cs i j d (λ e. ne (ap (λ (n : ℕ). suc n) e))

among_inserted : (o n : ℕ) (ns : List ℕ) → is_among (inserted nat_cmp o ns) n ≡ ((o == n) || is_among ns n)
among_inserted o n [] = refl
among_inserted o n (m ∷ ms) = here (is_gt (nat_cmp o m)) (among_inserted o n ms)
  where
    turned : (a b c : Bool) → (a || (b || c)) ≡ (b || (a || c))
    turned true true c = refl
    turned true false c = refl
    turned false b c = refl

    here : (b : Bool) → is_among (inserted nat_cmp o ms) n ≡ ((o == n) || is_among ms n) → is_among (if b then m ∷ inserted nat_cmp o ms else o ∷ m ∷ ms) n ≡ ((o == n) || ((m == n) || is_among ms n))
    here true e = ap (λ (c : Bool). (m == n) || c) e ∙ turned (m == n) (o == n) (is_among ms n)
    here false e = refl

-- numbers that rise within a limit are none above it
none_above : (last limit n : ℕ) (ns : List ℕ) → rise_within last limit ns ≡ true → limit < n → is_among ns n ≡ false
none_above last limit n [] e lt = refl
none_above last limit n (m ∷ ms) e lt =
    let p = and_true (nat_lt last m && nat_le m limit) (rise_within m limit ms) e in
    let le = leb-true m limit (and_true (nat_lt last m) (nat_le m limit) p.0).1 in
    rw (ne_eqb m n (λ k. omega (arith, k, le, lt))) (none_above m limit n ms p.1 lt)

all_true : (f : ColumnDef → Bool) (cs : List ColumnDef) → list_all f cs ≡ true → AllByRecursion (λ c. f c ≡ true) cs
all_true f [] e = tt
all_true f (c ∷ cs) e = let p = and_true (f c) (list_all f cs) e in (p.0, all_true f cs p.1)

last_true : (f : ColumnDef → Bool) (cs : List ColumnDef) (c : ColumnDef) → list_all f (cs ++ c ∷ []) ≡ true → f c ≡ true
last_true f [] c e = (and_true (f c) true e).0
last_true f (b ∷ cs) c e = last_true f cs c (and_true (f b) (list_all f (cs ++ c ∷ [])) e).1

-- ---- definitions

front : (a b : Bool) → (a && b) ≡ true → a ≡ true
front a b e = (and_true a b e).0

columns_encodable : (def : TableDef) → is_encodable_def def ≡ true → list_all is_encodable_column def.columns ≡ true
columns_encodable def e = (and_true _ _ (front _ _ (front _ _ (front _ _ (front _ _ (front _ _ (front _ _ e))))))).1

dropped_rise : (def : TableDef) → is_encodable_def def ≡ true → rise_within 0 (length def.columns) def.dropped ≡ true
dropped_rise def e = front _ _ (and_true _ _ (front _ _ (front _ _ (front _ _ (front _ _ (front _ _ (front _ _ (front _ _ (front _ _ e))))))))).1

column_named : (c : ColumnDef) → is_encodable_column c ≡ true → (is_proper_name c.name ≡ true) × (is_ledger_name c.name ≡ false)
column_named c e =
    let p = and_true (is_in_range c.ty && is_proper_name c.name) (not (is_ledger_name c.name)) e in
    ((and_true (is_in_range c.ty) (is_proper_name c.name) p.0).1, not_true (is_ledger_name c.name) p.1)

-- ---- a row more, of a new column

-- the row says that the column was created or added
record SaysNew (r : PlacedRow) (n : ℕ) (name : List ℕ) : Type 0 where
  item : item_of r ≡ pos n
  right : is_new_column r ≡ true
  says : value_at r.row 3 ≡ Text name

module _ (rows : List PlacedRow) (cs : List ColumnDef) (dropped : List ℕ) (r : PlacedRow) (c : ColumnDef) (new : SaysNew r (suc (length cs)) c.name) (told : Told rows cs dropped) where
  count : length (cs ++ c ∷ []) ≡ suc (length cs)
  count = let e = length-append cs (c ∷ []) in omega (arith, e)

  named_still : (i : ℕ) (d : ColumnDef) → i < length cs → IsNamed rows (suc i) d.name → IsNamed (r ∷ rows) (suc i) d.name
  named_still i d lt k =
      let item = new.item in
      let other : int_eq (pos (suc i)) (item_of r) ≡ false = other_number (pos (suc i)) (item_of r) (λ e. (let same : pos (suc i) ≡ pos (suc (length cs)) = e ∙ item in omega (arith, ints, same, lt))) in
      record {
        row = k.row;
        one = ap (λ (b : Bool). if b then r ∷ of_item (pos (suc i)) rows else of_item (pos (suc i)) rows) other ∙ k.one;
        says = k.says;
      }

  named_new : (n : ℕ) → n ≡ suc (length cs) → IsNamed (r ∷ rows) n c.name
  named_new n is =
      let it : int_eq (pos n) (item_of r) ≡ true = is_number (pos n) (item_of r) (ap (λ (m : ℕ). pos m) is ∙ sym new.item) in
      let none : of_item (pos n) rows ≡ [] =
      none_pass (λ (b : PlacedRow). int_eq (pos n) (item_of b)) rows
      (all_weaker (λ (b : PlacedRow). item_of b ≤ℤ pos (length cs)) (λ (b : PlacedRow). int_eq (pos n) (item_of b) ≡ false)
      (λ b le. other_number (pos n) (item_of b) (λ e. (let lt : pos n ≤ℤ pos (length cs) = subst (λ (z : ℤ). z ≤ℤ pos (length cs)) (sym e) le in omega (arith, ints, lt, is)))) rows told.within) in
      record {
        row = r;
        one = ap (λ (b : Bool). if b then r ∷ of_item (pos n) rows else of_item (pos n) rows) it ∙ ap (λ (l : List PlacedRow). r ∷ l) none;
        says = new.says;
      }

  told_with_new : AllByRecursion (λ (b : PlacedRow). change_of 1 b.row ≤ℤ change_of 1 r.row) rows → Told (r ∷ rows) (cs ++ c ∷ []) dropped
  told_with_new latest =
      record {
        history = (
          inl (record {
            right = new.right;
            above = all_weaker (λ (b : PlacedRow). item_of b ≤ℤ pos (length cs)) (λ (b : PlacedRow). item_of b <ℤ item_of r)
                (λ b le. subst (λ (z : ℤ). item_of b <ℤ z) (sym new.item) (omega (arith, ints, le))) rows told.within;
            latest = latest;
          }),
          told.history,
        );
        within = (
          subst (λ (z : ℤ). z ≤ℤ pos (length (cs ++ c ∷ []))) (sym new.item) (let e = count in omega (arith, ints, e)),
          all_weaker (λ (b : PlacedRow). item_of b ≤ℤ pos (length cs)) (λ (b : PlacedRow). item_of b ≤ℤ pos (length (cs ++ c ∷ []))) (λ b le. (let e = count in omega (arith, ints, le, e))) rows told.within,
        );
        live = λ i d at stands. elim (last_or_before cs c i d at) [
          | inl p ↦ named_still i d p.0 (told.live i d p.1 stands)
          | inr p ↦ subst (λ (b : ColumnDef). IsNamed (r ∷ rows) (suc i) b.name) p.1 (named_new (suc i) (ap (λ (m : ℕ). suc m) p.0))
        ];
      }

-- ---- CREATE TABLE

says_created : (place : EventPlace) (id n : ℕ) (c : ColumnDef) → is_encodable_column c ≡ true → SaysNew (record { place = place; row = column_row id (n, c) }) n c.name
says_created place id n c e =
    let named = column_named c e in
    record { item = refl; right = rw (named.0, named.1) refl; says = refl }

module _ (id m : ℕ) where
  record Entering (n j : ℕ) (cs pre : List ColumnDef) (before : List PlacedRow) : Type 0 where
    rows : List PlacedRow
    same : IsPermutation (placed_from m j (map (column_row id) (numbered n cs)) ++ before) rows
    told : Told rows (pre ++ cs) []

  entering : (n j : ℕ) (cs pre : List ColumnDef) (before : List PlacedRow) → n ≡ suc (length pre) → AllByRecursion (λ c. is_encodable_column c ≡ true) cs
      → AllByRecursion (λ (b : PlacedRow). change_of 1 b.row ≤ℤ pos 0) before → Told before pre [] → Entering n j cs pre before
  entering n j [] pre before is encodable latest told = record { rows = before; same = IsPermutation-refl before; told = subst (λ (l : List ColumnDef). Told before l []) (sym (append-nil pre)) told }
  entering n j (c ∷ cs) pre before is encodable latest told =
      let r : PlacedRow = record { place = (m, j); row = column_row id (n, c) } in
      let says : SaysNew r (suc (length pre)) c.name = subst (λ (k : ℕ). SaysNew r k c.name) is (says_created (m, j) id n c encodable.0) in
      let rest : List PlacedRow = placed_from m (j + 1) (map (column_row id) (numbered (n + 1) cs)) in
      let next : n + 1 ≡ suc (length (pre ++ c ∷ [])) = (let e = length-append pre (c ∷ []) in omega (arith, e, is)) in
      let more : Entering (n + 1) (j + 1) cs (pre ++ c ∷ []) (r ∷ before) =
      entering (n + 1) (j + 1) cs (pre ++ c ∷ []) (r ∷ before) next encodable.1 (omega (arith, ints), latest) (told_with_new before pre [] r c says told latest) in
      record {
        rows = more.rows;
        same = IsPermutation-trans (r ∷ rest ++ before) (rest ++ r ∷ before) more.rows (IsPermutation-sym (rest ++ r ∷ before) (r ∷ rest ++ before) (IsPermutation-middle rest r before)) more.same;
        told = subst (λ (l : List ColumnDef). Told more.rows l []) (append_assoc pre (c ∷ []) cs) more.told;
      }

created_told : (p : EventPlace) (d : TableDef) → IsNewTable d → (T : List PlacedRow) → ColumnsTold T (placed_from p.0 (p.1 + 1) (column_rows d)) d
unfolding column_rows
created_told p d new T =
    let first : Told [] [] [] = record { history = tt; within = tt; live = λ i c e. cc } in
    let all : Entering d.id p.0 1 (p.1 + 1) d.columns [] [] = entering d.id p.0 1 (p.1 + 1) d.columns [] [] refl (all_true is_encodable_column d.columns (columns_encodable d new.encodable)) tt first in
    record {
      rows = all.rows;
      same = subst (λ (l : List PlacedRow). IsPermutation l all.rows) (append-nil (placed_from p.0 (p.1 + 1) (map (column_row d.id) (numbered 1 d.columns)))) all.same;
      told = subst (Told all.rows d.columns) (sym new.whole) all.told;
    }

-- ---- ALTER TABLE

says_added : (place : EventPlace) (change : ℕ) (d : TableDef) (c : ColumnDef) → is_encodable_column (column_to_add c) ≡ true → is_among d.dropped (suc (length d.columns)) ≡ false
    → SaysNew (column_changed place change (added_to d c)) (suc (length d.columns)) c.name
unfolding changed_column_row
says_added place change d c e stands =
    let named = column_named (column_to_add c) e in
    record { item = refl; right = rw (named.0, named.1, stands) (or_second (int_eq (pos change) (pos 0)) true refl); says = refl }

changed_by : (place : EventPlace) (change : ℕ) (d : TableDef) (c : ℕ × ColumnDef) → change_of 1 (column_changed place change (d, c)).row ≡ pos change
unfolding changed_column_row
changed_by place change d c = refl

module _ (place : EventPlace) (change : ℕ) (T C : List PlacedRow) (below : AreBelow place change T C) (d : TableDef) (q : ColumnsTold T C d) where
  rows_below : AllByRecursion (λ (b : PlacedRow). change_of 1 b.row <ℤ pos change) q.rows
  rows_below =
      of_any_order (λ (b : PlacedRow). change_of 1 b.row <ℤ pos change) C q.rows q.same
      (all_weaker (λ (b : PlacedRow). (change_of 1 b.row <ℤ pos change) × (stands_before b.place place ≡ true)) (λ (b : PlacedRow). change_of 1 b.row <ℤ pos change) (λ b k. k.0) C below.columns)

  more_rows : (r : PlacedRow) → IsPermutation (r ∷ C) (r ∷ q.rows)
  more_rows r = IsPermutation-cons r C q.rows q.same

  added_told : (c : ColumnDef) → is_encodable_def d ≡ true → is_encodable_def (added_to d c).0 ≡ true → ColumnsTold T (column_changed place change (added_to d c) ∷ C) (added_to d c).0
  added_told c before after =
      let r : PlacedRow = column_changed place change (added_to d c) in
      let stands : is_among d.dropped (suc (length d.columns)) ≡ false = none_above 0 (length d.columns) (suc (length d.columns)) d.dropped (dropped_rise d before) (omega arith) in
      let says : SaysNew r (suc (length d.columns)) c.name = says_added place change d c (last_true is_encodable_column d.columns (column_to_add c) (columns_encodable (added_to d c).0 after)) stands in
      let is : change_of 1 r.row ≡ pos change = changed_by place change (added_to d c).0 (added_to d c).1 in
      record {
        rows = r ∷ q.rows;
        same = more_rows r;
        told = told_with_new q.rows d.columns d.dropped r (column_to_add c) says q.told
            (all_weaker (λ (b : PlacedRow). change_of 1 b.row <ℤ pos change) (λ (b : PlacedRow). change_of 1 b.row ≤ℤ change_of 1 r.row)
            (λ b lt. subst (λ (z : ℤ). change_of 1 b.row ≤ℤ z) (sym is) (omega (arith, ints, lt))) q.rows rows_below);
      }

-- the row says that the column was dropped
itself_same : (v : Value) → same_value v v ≡ true
itself_same v = ap is_eq (tied_itself value_total v)

record SaysDropped (r : PlacedRow) (n : ℕ) (name : List ℕ) : Type 0 where
  item : item_of r ≡ pos n
  drops : (f : PlacedRow) → value_at f.row 3 ≡ Text name → drops_column f r ≡ true

says_dropped_column : (place : EventPlace) (change : ℕ) (d : TableDef) (c : ℕ × ColumnDef) → SaysDropped (column_changed place change (dropped_from d c)) (suc c.0) c.1.name
unfolding changed_column_row
says_dropped_column place change d c =
    let gone : is_among (inserted nat_cmp (suc c.0) d.dropped) (suc c.0) ≡ true = among_inserted (suc c.0) (suc c.0) d.dropped ∙ ap (λ (b : Bool). b || is_among d.dropped (suc c.0)) (eq-eqb (suc c.0) (suc c.0) refl) in
    record {
      item = refl;
      drops = λ f e. rw (gone, e) (itself_same (Text (dropped_column_name c.1.name (suc c.0))));
    }

module _ (place : EventPlace) (change : ℕ) (T C : List PlacedRow) (below : AreBelow place change T C) (d : TableDef) (q : ColumnsTold T C d) (name : List ℕ) (c : ℕ × ColumnDef) (live : Live d name c) where
  abbrev cs : List ColumnDef
  cs = d.columns

  abbrev r : PlacedRow
  r = column_changed place change (dropped_from d c)

  abbrev new : ColumnDef
  new = dropped_column (suc c.0) c.1

  says : SaysDropped r (suc c.0) c.1.name
  says = says_dropped_column place change d c

  one : IsNamed q.rows (suc c.0) c.1.name
  one = q.told.live c.0 c.1 live.at live.live

  count_same : length (slice_set cs c.0 new) ≡ length cs
  count_same = length-set cs c.0 new

  within_it : suc c.0 ≤ length cs
  within_it = let lt = slice_get_within cs c.0 c.1 live.at in omega (arith, lt)

  live_still : (i : ℕ) (b : ColumnDef) → slice_get (slice_set cs c.0 new) i ≡ Some b → is_among (inserted nat_cmp (suc c.0) d.dropped) (suc i) ≡ false → IsNamed (r ∷ q.rows) (suc i) b.name
  live_still i b at stands =
      let p = or_false (suc c.0 == suc i) (is_among d.dropped (suc i)) (sym (among_inserted (suc c.0) (suc i) d.dropped) ∙ stands) in
      let ne : suc c.0 ≢ suc i = eqb-false (suc c.0) (suc i) p.0 in
      let k : IsNamed q.rows (suc i) b.name = q.told.live i b (sym (set_elsewhere cs c.0 i new (λ e. ne (ap (λ (n : ℕ). suc n) e))) ∙ at) p.1 in
      let other : int_eq (pos (suc i)) (item_of r) ≡ false = other_number (pos (suc i)) (item_of r) (λ e. (let same : pos (suc i) ≡ pos (suc c.0) = e ∙ says.item in ne (omega (arith, ints, same)))) in
      record {
        row = k.row;
        one = ap (λ (t : Bool). if t then r ∷ of_item (pos (suc i)) q.rows else of_item (pos (suc i)) q.rows) other ∙ k.one;
        says = k.says;
      }

  dropped_told : ColumnsTold T (r ∷ C) (dropped_from d c).0
  dropped_told =
      let is : change_of 1 r.row ≡ pos change = changed_by place change (dropped_from d c).0 (dropped_from d c).1 in
      record {
        rows = r ∷ q.rows;
        same = more_rows place change T C below d q r;
        told = record {
          history = (
            inr (record {
              first = one.row;
              one = ap (λ (z : ℤ). of_item z q.rows) says.item ∙ one.one;
              drops = says.drops one.row one.says;
              latest = all_weaker (λ (b : PlacedRow). change_of 1 b.row <ℤ pos change) (λ (b : PlacedRow). change_of 1 b.row <ℤ change_of 1 r.row)
                  (λ b lt. subst (λ (z : ℤ). change_of 1 b.row <ℤ z) (sym is) lt) q.rows (rows_below place change T C below d q);
            }),
            q.told.history,
          );
          within = (
            subst (λ (z : ℤ). z ≤ℤ pos (length (slice_set cs c.0 new))) (sym says.item) (let e = count_same in let le = within_it in omega (arith, ints, e, le)),
            all_weaker (λ (b : PlacedRow). item_of b ≤ℤ pos (length cs)) (λ (b : PlacedRow). item_of b ≤ℤ pos (length (slice_set cs c.0 new)))
                (λ b le. subst (λ (n : ℕ). item_of b ≤ℤ pos n) (sym count_same) le) q.rows q.told.within,
          );
          live = live_still;
        };
      }

-- ---- DROP TABLE

gone_told : (T U C : List PlacedRow) (d : TableDef) → ColumnsTold T C d → ColumnsTold U C (dropped_table d)
unfolding dropped_table
gone_told T U C d q = record { rows = q.rows; same = q.same; told = q.told }

pub columns_told_kept : EachKeeps ColumnsTold
columns_told_kept = record {
  in_order = λ T U C D d t c q. record { rows = q.rows; same = IsPermutation-trans D C q.rows c q.same; told = q.told };
  created = λ p d new. created_told p d new _;
  indexed = λ T C d i q. record { rows = q.rows; same = q.same; told = q.told };
  added = λ place change T C below d c there before after q. added_told place change T C below d q c before after;
  dropped = λ place change T C below d name c live there q. dropped_told place change T C below d q name c live;
  gone = λ place change T C below d there q. gone_told T _ C d q;
}

-- ---- the rules

module _ (x : Catalog) (h : OfEach ColumnsTold columns_told_kept x) (d : TableDef) (among : IsAmong d x.defs) where
  told : ColumnsTold (tables_about x.rows (pos d.id)) (columns_about x.rows (pos d.id)) d
  told = of_among (OfOne ColumnsTold columns_told_kept x) x.defs h d among

  pub columns_keep_right : columns_are_right (columns_about x.rows (pos d.id)) ≡ true
  columns_keep_right = columns_right (columns_about x.rows (pos d.id)) told.rows told.same told.told.history

  pub ordinals_keep_rising : list_all (λ a. list_all (rises_by_ordinal a) (firsts 1 (columns_about x.rows (pos d.id)))) (firsts 1 (columns_about x.rows (pos d.id))) ≡ true
  ordinals_keep_rising = ordinals_rise (columns_about x.rows (pos d.id)) told.rows told.same told.told.history
