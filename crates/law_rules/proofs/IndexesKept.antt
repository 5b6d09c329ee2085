-- Each statement keeps that the rows of indexes stand in time.
use Rattle.std.proofs.Common.{◌≡◌, ◌≤◌, ◌<◌, ◌⊎◌, ℕ, ℤ, zero, suc, pos, ◌+◌, ◌*◌, inl, inr, refl, sym, ap, subst, ◌∙◌, arith, Bool, true, false, List, [], ◌∷◌, ◌++◌, map, length, Ok, append-nil, length-append}
use Rattle.std.proofs.lemmas.Bool.{eq-eqb}
use Rattle.std.proofs.lemmas.Int.{ints}
use Rattle.std.proofs.lemmas.List.{length-set}
use Rattle.std.proofs.lemmas.List.Sorted.{IsPermutation-refl}
use Rattle.std.proofs.lemmas.Option.{slice_get_within}
use Rattle.std.specs.Prelude.{◌||◌, ◌==◌, ◌<ℤ◌, not, if◌then◌else◌, slice_set}
use Rattle.std.specs.List.{AllByRecursion, filter}
use Rattle.std.specs.List.Sorted.{IsPermutation}
use Rattle.std.specs.Ordering.{nat_cmp, is_gt}
use Rattle.sql_value.specs.declared.column.ColumnDef.{ColumnDef}
use Rattle.sql_types.specs.declared.statement.CreateIndex.{CreateIndex}
use Rattle.sql_types.specs.declared.statement.CreateTable.{CreateTable}
use Rattle.sql_types.specs.declared.table.IndexDef.{IndexDef}
use Rattle.sql_types.specs.declared.table.TableDef.{TableDef}
use Rattle.spec_model.specs.Alter.{WithColumn, column_to_add, dropped_column, added_to, dropped_from, dropped_table}
use Rattle.spec_model.specs.Create.{create_check, index_check, with_index}
use Rattle.spec_model.specs.Lists.{numbered, inserted, is_among}
use Rattle.spec_model.specs.Rows.{Row}
use Rattle.spec_model.specs.SystemTables.{table_row, column_row, column_rows, index_row, index_rows, changed_table_row, changed_column_row}
use Rattle.law_frame.proofs.Alls.{all_weaker, all_both, all_filter}
use Rattle.law_journal.proofs.Created.{Created, created, Indexed, indexed}
use Rattle.law_journal.proofs.DefLists.{redef}
use Rattle.law_catalog_rows.specs.Encoded.{IsAmong}
use Rattle.law_catalog_rows.specs.Formed.{Formed}
use Rattle.law_catalog_rows.specs.Latest.{change_of, is_past}
use Rattle.law_catalog_rows.proofs.About.{StartsWith, table_starts, columns_start, parts_start}
use Rattle.law_catalog_rows.proofs.Defs.{HasId, has_id, of_among, but_last, new_or_other}
use Rattle.law_catalog_rows.proofs.Forms.{NewIndex, new_index}
use Rattle.law_catalog_rows.proofs.OneRowMore.{not_itself, not_past, past, past_where}
use Rattle.law_catalog_rows.proofs.Orders.{filtered, filter_all, filter_none}
use Rattle.spec_rules.specs.Places.{EventPlace, PlacedRow, stands_before}
use Rattle.spec_rules.specs.Rows.{CatalogRows, is_about_table, is_column_row, tables_about, items_about, columns_about, indexes_about}
use Rattle.law_rules.specs.Steps.{Catalog, Entered, Stands, all_defs, nothing, placed_from}
use Rattle.law_rules.proofs.ColumnNames.{is_less, isnt_less}
use Rattle.law_rules.proofs.IndexRows.{IsSecond, IsOfColumn, EachColumn, Told, NewColumn, one_number, second_back, told_in_order, told_with_table, told_with_column, wider, told_with_parts, told_of_new}
use Rattle.law_rules.proofs.InOrder.{all_in_order, some_weaker, some_of_all, never_true, or_second}
use Rattle.law_rules.proofs.Kept.{Around, ColumnEntered, IsNext, StepsKeep}
use Rattle.law_rules.proofs.Orders.{own_rows, other_rows, none_about}
use Rattle.law_rules.proofs.Said.{IsOf}
use Rattle.law_rules.proofs.Tables.{OneRow, TablesTold, its_one_row, other_id, changed_starts, tables_told_kept, first_tables_told}

-- ---- what is said of the rows about a table

abbrev pub IndexesSaid : CatalogRows → TableDef → Type 0
IndexesSaid rows d =
    Told (1000 * (length d.indexes + 1)) (length d.columns) d.dropped (tables_about rows (pos d.id)) (columns_about rows (pos d.id)) (indexes_about rows (pos d.id))

-- of each table, and what rows there are about it in the table of tables
abbrev pub AllInTime : Catalog → Type 0
AllInTime x = TablesTold x × ((d : TableDef) → IsAmong d x.defs → IndexesSaid x.rows d)

said_alike : (x y : CatalogRows) (d : TableDef) → IsPermutation (tables_about y (pos d.id)) (tables_about x (pos d.id)) → IsPermutation (items_about y (pos d.id)) (items_about x (pos d.id)) → IndexesSaid x d → IndexesSaid y d
said_alike x y d tables items h =
    told_in_order (tables_about x (pos d.id)) (columns_about x (pos d.id)) (indexes_about x (pos d.id)) (tables_about y (pos d.id)) (columns_about y (pos d.id)) (indexes_about y (pos d.id)) tables
    (filtered is_column_row (items_about y (pos d.id)) (items_about x (pos d.id)) items) (filtered (λ r. not (is_column_row r)) (items_about y (pos d.id)) (items_about x (pos d.id)) items)
    (1000 * (length d.indexes + 1)) (length d.columns) d.dropped h

-- ---- rows that are entered

all_not : (rows : List PlacedRow) (b c : Bool) → not b ≡ c → AllByRecursion (λ r. is_column_row r ≡ b) rows → AllByRecursion (λ r. not (is_column_row r) ≡ c) rows
all_not rows b c e h = all_weaker (λ r. is_column_row r ≡ b) (λ r. not (is_column_row r) ≡ c) (λ r k. ap not k ∙ e) rows h

module _ (after new before : List PlacedRow) (same : IsPermutation after (new ++ before)) where
  -- of columns
  module _ (are : AllByRecursion (λ r. is_column_row r ≡ true) new) where
    columns_more : IsPermutation (filter is_column_row after) (new ++ filter is_column_row before)
    columns_more = subst (IsPermutation (filter is_column_row after)) (filter_all is_column_row new before are) (filtered is_column_row after (new ++ before) same)

    indexes_left : IsPermutation (filter (λ r. not (is_column_row r)) after) (filter (λ r. not (is_column_row r)) before)
    indexes_left =
        subst (IsPermutation (filter (λ r. not (is_column_row r)) after)) (filter_none (λ r. not (is_column_row r)) new before (all_not new true false refl are)) (filtered (λ r. not (is_column_row r)) after (new ++ before) same)

  -- of an index
  module _ (are : AllByRecursion (λ r. is_column_row r ≡ false) new) where
    columns_left : IsPermutation (filter is_column_row after) (filter is_column_row before)
    columns_left = subst (IsPermutation (filter is_column_row after)) (filter_none is_column_row new before are) (filtered is_column_row after (new ++ before) same)

    indexes_more : IsPermutation (filter (λ r. not (is_column_row r)) after) (new ++ filter (λ r. not (is_column_row r)) before)
    indexes_more =
        subst (IsPermutation (filter (λ r. not (is_column_row r)) after)) (filter_all (λ r. not (is_column_row r)) new before (all_not new false true refl are)) (filtered (λ r. not (is_column_row r)) after (new ++ before) same)

columns_are : (id m n j : ℕ) (cs : List ColumnDef) → n + length cs ≤ 1000 → AllByRecursion (λ r. is_column_row r ≡ true) (placed_from m j (map (column_row id) (numbered n cs)))
columns_are id m n j [] le = tt
columns_are id m n j (c ∷ cs) le = (is_less n (omega (arith, le)), columns_are id m (n + 1) (j + 1) cs (omega (arith, le)))

parts_are : (id g m n j : ℕ) (name : List ℕ) (os : List ℕ) → 1 ≤ g → AllByRecursion (λ r. is_column_row r ≡ false) (placed_from m j (map (index_row id g name) (numbered n os)))
parts_are id g m n j name [] le = tt
parts_are id g m n j name (o ∷ os) le = (isnt_less (1000 * g + n) (omega (arith, le)), parts_are id g m (n + 1) (j + 1) name os le)

-- ---- the definitions after

module _ (p : EventPlace) (x y : Catalog) (around : Around p x y) where
  elsewhere : (first second : List Row) (id : ℕ) → Entered p first second x y → AllByRecursion (StartsWith id) first → AllByRecursion (StartsWith id) second → (d : TableDef) → (id ≡ d.id → ⊥) → IndexesSaid x.rows d → IndexesSaid y.rows d
  elsewhere first second id entered starts more d ne h =
      said_alike x.rows y.rows d (other_rows p.0 p.1 id first starts y.rows.tables x.rows.tables entered.tables (pos d.id) (other_id id d.id ne))
      (other_rows p.0 (p.1 + length first) id second more y.rows.items x.rows.items entered.items (pos d.id) (other_id id d.id ne)) h

  redefined : (old new : TableDef) → y.defs ≡ redef new x.defs → IsAmong old x.defs → (IndexesSaid x.rows old → IndexesSaid y.rows new) → ((d : TableDef) → (new.id ≡ d.id → ⊥) → IndexesSaid x.rows d → IndexesSaid y.rows d)
      → ((d : TableDef) → IsAmong d x.defs → IndexesSaid x.rows d) → (d : TableDef) → IsAmong d y.defs → IndexesSaid y.rows d
  redefined old new defs there own others h d among =
      elim (new_or_other new x.defs d (subst (IsAmong d) defs among)) [
        | inl is ↦ subst (IndexesSaid y.rows) is (own (h old there))
        | inr q ↦ others d (λ same. q.1 (sym same)) (h d q.0)
      ]

  -- all rows about a table's items are earlier, also for rows that start a number of places on
  items_earlier : (t : ℕ) (test : PlacedRow → Bool) → AllByRecursion (λ (r : PlacedRow). stands_before r.place (p.0, p.1 + 0) ≡ true) (filter test (items_about x.rows (pos t)))
  items_earlier t test =
      let same : p.1 ≡ p.1 + 0 = omega arith in
      subst (λ (n : ℕ). AllByRecursion (λ (r : PlacedRow). stands_before r.place (p.0, n) ≡ true) (filter test (items_about x.rows (pos t)))) same
      (all_filter (λ (r : PlacedRow). stands_before r.place (p.0, p.1) ≡ true) test (items_about x.rows (pos t)) (all_filter (λ (r : PlacedRow). stands_before r.place (p.0, p.1) ≡ true) (is_about_table (pos t)) x.rows.items around.earlier.items))

  -- ---- CREATE TABLE

  created_in_time : (c : CreateTable) (def : TableDef) → create_check (all_defs x) c ≡ Ok def → Entered p (table_row def ∷ []) (column_rows def) x y → y.defs ≡ x.defs ++ def ∷ []
      → ((d : TableDef) → IsAmong d x.defs → IndexesSaid x.rows d) → (d : TableDef) → IsAmong d y.defs → IndexesSaid y.rows d
  unfolding column_rows
  created_in_time c def passed entered defs h d among =
      elim (but_last x.defs def d (subst (IsAmong d) defs among)) [
        | inl old ↦ elsewhere (table_row def ∷ []) rows def.id entered (table_starts def, tt) (columns_start def.id 1 def.columns) d (differ d old) (h d old)
        | inr is ↦ subst (IndexesSaid y.rows) is own
      ]
    where
      rows : List Row
      rows = map (column_row def.id) (numbered 1 def.columns)

      new : List PlacedRow
      new = placed_from p.0 (p.1 + 1) (map (column_row def.id) (numbered 1 def.columns))

      facts : Created (all_defs x) def
      facts = created (all_defs x) c def passed

      differ : (e : TableDef) → IsAmong e x.defs → def.id ≡ e.id → ⊥
      differ e there same = let i : HasId 3 x.defs e = has_id 3 x.defs around.before.ids e there in let id = facts.id in omega (arith, same, id, i.below)

      none : items_about x.rows (pos def.id) ≡ []
      none = none_about (pos def.id) x.rows.items (around.before.encoded.others (pos def.id) (λ e there same. differ e there (one_number def.id e.id (sym same)))).1

      items : IsPermutation (items_about y.rows (pos def.id)) (new ++ [])
      items = subst (λ (l : List PlacedRow). IsPermutation (items_about y.rows (pos def.id)) (new ++ l)) none (own_rows p.0 (p.1 + 1) def.id rows (columns_start def.id 1 def.columns) y.rows.items x.rows.items entered.items)

      are : AllByRecursion (λ r. is_column_row r ≡ true) new
      are = columns_are def.id p.0 1 (p.1 + 1) def.columns (let few = facts.count in omega (arith, few))

      own : IndexesSaid y.rows def
      own =
          let T : List PlacedRow = tables_about y.rows (pos def.id) in
          told_in_order T new [] T (columns_about y.rows (pos def.id)) (indexes_about y.rows (pos def.id)) (IsPermutation-refl T)
          (subst (IsPermutation (columns_about y.rows (pos def.id))) (append-nil new) (columns_more (items_about y.rows (pos def.id)) new [] items are)) (indexes_left (items_about y.rows (pos def.id)) new [] items are)
          (1000 * (length def.indexes + 1)) (length def.columns) def.dropped (told_of_new def.id p.0 (1000 * (length def.indexes + 1)) (p.1 + 1) def.columns def.dropped T)

  -- ---- CREATE INDEX

  one_alone : (T : List PlacedRow) (r : PlacedRow) → IsPermutation T (r ∷ []) → AllByRecursion (λ s. IsSecond 0 T s → ⊥) T
  one_alone T r h = all_in_order (λ s. IsSecond 0 T s → ⊥) T (r ∷ []) h ((λ second. alone (second_back 0 (r ∷ []) T h r second)), tt)
    where
      alone : IsSecond 0 (r ∷ []) r → ⊥
      alone (inl e) = never_true (is_past 0 r.row r.row) e (not_itself 0 r.row)
      alone (inr none) = none

  index_in_time : (c : CreateIndex) (i : TableDef × IndexDef) → index_check (all_defs x) c ≡ Ok i → Stands x i.0 → Entered p [] (index_rows i.0.id (length i.0.indexes + 1) i.1) x y → y.defs ≡ redef (with_index i.0 i.1) x.defs → AllInTime x
      → (d : TableDef) → IsAmong d y.defs → IndexesSaid y.rows d
  unfolding index_rows
  index_in_time c i passed st entered defs h =
      redefined i.0 (with_index i.0 i.1) defs st.among own (elsewhere [] (map (index_row i.0.id g i.1.name) (numbered 1 i.1.ordinals)) i.0.id entered tt starts) h.1
    where
      g : ℕ
      g = length i.0.indexes + 1

      t : ℤ
      t = pos i.0.id

      starts : AllByRecursion (StartsWith i.0.id) (map (index_row i.0.id g i.1.name) (numbered 1 i.1.ordinals))
      starts = parts_start i.0.id g 1 i.1.name i.1.ordinals

      new : List PlacedRow
      new = placed_from p.0 (p.1 + 0) (map (index_row i.0.id g i.1.name) (numbered 1 i.1.ordinals))

      facts : Indexed (all_defs x) i
      facts = indexed (all_defs x) c i passed

      made : NewIndex c i
      made = new_index (all_defs x) c i passed

      good : AllByRecursion (λ o. (1 ≤ o) × ((o ≤ length i.0.columns) × (is_among i.0.dropped o ≡ false))) i.1.ordinals
      good =
          all_both (λ o. 1 ≤ o) (λ o. (o ≤ length i.0.columns) × (is_among i.0.dropped o ≡ false)) i.1.ordinals made.ordinals
          (all_both (λ o. o ≤ length i.0.columns) (λ o. is_among i.0.dropped o ≡ false) i.1.ordinals facts.ordinals (made.live (of_among Formed x.defs around.before.formed i.0 st.among).column_names))

      items : IsPermutation (items_about y.rows t) (new ++ items_about x.rows t)
      items = own_rows p.0 (p.1 + 0) i.0.id (map (index_row i.0.id g i.1.name) (numbered 1 i.1.ordinals)) starts y.rows.items x.rows.items entered.items

      are : AllByRecursion (λ r. is_column_row r ≡ false) new
      are = parts_are i.0.id g p.0 1 (p.1 + 0) i.1.name i.1.ordinals (omega arith)

      alone : AllByRecursion (λ s. IsSecond 0 (tables_about x.rows t) s → ⊥) (tables_about x.rows t)
      alone = let one : OneRow x i.0 = its_one_row x i.0 st.there (h.0 i.0 st.among) in one_alone (tables_about x.rows t) _ one.1

      own : IndexesSaid x.rows i.0 → IndexesSaid y.rows (with_index i.0 i.1)
      own said =
          let T : List PlacedRow = tables_about x.rows t in
          let C : List PlacedRow = columns_about x.rows t in
          let I : List PlacedRow = indexes_about x.rows t in
          let more : Told (1000 * g + 1 + length i.1.ordinals) (length i.0.columns) i.0.dropped T C (new ++ I) =
          told_with_parts T C alone (length i.0.columns) i.0.dropped i.0.id g p.0 i.1.name 1 (p.1 + 0) i.1.ordinals I (items_earlier i.0.id is_column_row) (items_earlier i.0.id (λ r. not (is_column_row r))) good
          (1000 * g) (omega arith) said in
          let room : 1000 * g + 1 + length i.1.ordinals ≤ 1000 * (length (i.0.indexes ++ i.1 ∷ []) + 1) = (let few = facts.count in omega (arith, few, length-append i.0.indexes (i.1 ∷ []))) in
          told_in_order T C (new ++ I) (tables_about y.rows t) (columns_about y.rows t) (indexes_about y.rows t) (own_rows p.0 p.1 i.0.id [] tt y.rows.tables x.rows.tables entered.tables)
          (columns_left (items_about y.rows t) new (items_about x.rows t) items are) (indexes_more (items_about y.rows t) new (items_about x.rows t) items are)
          (1000 * (length (i.0.indexes ++ i.1 ∷ []) + 1)) (length i.0.columns) i.0.dropped
          (wider (1000 * g + 1 + length i.1.ordinals) (1000 * (length (i.0.indexes ++ i.1 ∷ []) + 1)) (length i.0.columns) i.0.dropped T C (new ++ I) room more)

  -- ---- ALTER TABLE

  -- a row more about a column
  column_in_time : (old : TableDef) (w : WithColumn) → IsAmong old x.defs → w.0.id ≡ old.id → w.0.indexes ≡ old.indexes → w.1.0 < 1000 → (change : ℕ) → IsNext change x old → ColumnEntered p change w x y
      → (EachColumn (length old.columns) (columns_about x.rows (pos old.id)) → AllByRecursion (IsOfColumn (length old.columns) old.dropped (columns_about x.rows (pos old.id))) (columns_about x.rows (pos old.id))
      → (new : PlacedRow) → IsOf 1 w.1.0 new → AllByRecursion (λ (c : PlacedRow). change_of 1 c.row <ℤ change_of 1 new.row) (columns_about x.rows (pos old.id))
      → NewColumn (length old.columns) old.dropped (columns_about x.rows (pos old.id)) new (length w.0.columns) w.0.dropped)
      → AllInTime x → (d : TableDef) → IsAmong d y.defs → IndexesSaid y.rows d
  unfolding changed_column_row
  column_in_time old w among id indexes few change next entered step h =
      redefined old w.0 entered.defs among own (elsewhere [] (changed_column_row change w.0 w.1 ∷ []) w.0.id entered.rows tt ((_, refl), tt)) h.1
    where
      t : ℤ
      t = pos old.id

      T : List PlacedRow
      T = tables_about x.rows (pos old.id)

      C : List PlacedRow
      C = columns_about x.rows (pos old.id)

      I : List PlacedRow
      I = indexes_about x.rows (pos old.id)

      new : PlacedRow
      new = record { place = (p.0, p.1 + 0); row = changed_column_row change w.0 w.1 }

      starts : AllByRecursion (StartsWith old.id) (changed_column_row change w.0 w.1 ∷ [])
      starts = subst (λ (n : ℕ). AllByRecursion (StartsWith n) (changed_column_row change w.0 w.1 ∷ [])) id ((_, refl), tt)

      tables : IsPermutation (tables_about y.rows (pos old.id)) T
      tables = own_rows p.0 p.1 old.id [] tt y.rows.tables x.rows.tables entered.rows.tables

      items : IsPermutation (items_about y.rows (pos old.id)) (new ∷ items_about x.rows (pos old.id))
      items = own_rows p.0 (p.1 + 0) old.id (changed_column_row change w.0 w.1 ∷ []) starts y.rows.items x.rows.items entered.rows.items

      are : AllByRecursion (λ r. is_column_row r ≡ true) (new ∷ [])
      are = (is_less w.1.0 few, tt)

      less : AllByRecursion (λ (c : PlacedRow). change_of 1 c.row <ℤ change_of 1 new.row) C
      less = all_filter (λ (c : PlacedRow). change_of 1 c.row <ℤ pos change) is_column_row (items_about x.rows (pos old.id)) next.items

      own : IndexesSaid x.rows old → IndexesSaid y.rows w.0
      own said =
          let s : NewColumn (length old.columns) old.dropped C new (length w.0.columns) w.0.dropped = step said.each said.columns new refl less in
          let n : ℕ = length w.0.columns in
          let bound : ℕ = 1000 * (length old.indexes + 1) in
          let more : Told bound n w.0.dropped T (new ∷ C) I =
          told_with_column T C I new (items_earlier old.id (λ r. not (is_column_row r)))
          (all_weaker (λ (c : PlacedRow). change_of 1 c.row <ℤ change_of 1 new.row) (λ (c : PlacedRow). is_past 1 c.row new.row ≡ false) (λ c lt. not_past 1 c.row new.row (omega (arith, ints, lt))) C less)
          bound (length old.columns) old.dropped n w.0.dropped s said in
          let there : Told bound n w.0.dropped (tables_about y.rows (pos old.id)) (columns_about y.rows (pos old.id)) (indexes_about y.rows (pos old.id)) =
          told_in_order T (new ∷ C) I (tables_about y.rows (pos old.id)) (columns_about y.rows (pos old.id)) (indexes_about y.rows (pos old.id)) tables
          (columns_more (items_about y.rows (pos old.id)) (new ∷ []) (items_about x.rows (pos old.id)) items are) (indexes_left (items_about y.rows (pos old.id)) (new ∷ []) (items_about x.rows (pos old.id)) items are) bound n w.0.dropped more in
          subst (λ (i : ℕ). Told (1000 * (length w.0.indexes + 1)) n w.0.dropped (tables_about y.rows (pos i)) (columns_about y.rows (pos i)) (indexes_about y.rows (pos i))) (sym id)
          (subst (λ (is : List IndexDef). Told (1000 * (length is + 1)) n w.0.dropped (tables_about y.rows (pos old.id)) (columns_about y.rows (pos old.id)) (indexes_about y.rows (pos old.id))) (sym indexes) there)

  -- ---- DROP TABLE

  gone_in_time : (old : TableDef) → IsAmong old x.defs → (change : ℕ) → IsNext change x old → Entered p (changed_table_row change (dropped_table old) ∷ []) [] x y → y.defs ≡ redef (dropped_table old) x.defs → AllInTime x
      → (d : TableDef) → IsAmong d y.defs → IndexesSaid y.rows d
  unfolding dropped_table changed_table_row
  gone_in_time old among change next entered defs h =
      redefined old (dropped_table old) defs among own (elsewhere (changed_table_row change (dropped_table old) ∷ []) [] old.id entered (changed_starts change (dropped_table old), tt) tt) h.1
    where
      T : List PlacedRow
      T = tables_about x.rows (pos old.id)

      C : List PlacedRow
      C = columns_about x.rows (pos old.id)

      I : List PlacedRow
      I = indexes_about x.rows (pos old.id)

      new : PlacedRow
      new = record { place = (p.0, p.1); row = changed_table_row change (dropped_table old) }

      own : IndexesSaid x.rows old → IndexesSaid y.rows (dropped_table old)
      own said =
          let bound : ℕ = 1000 * (length old.indexes + 1) in
          let items : IsPermutation (items_about y.rows (pos old.id)) (items_about x.rows (pos old.id)) = own_rows p.0 (p.1 + 1) old.id [] tt y.rows.items x.rows.items entered.items in
          told_in_order (new ∷ T) C I (tables_about y.rows (pos old.id)) (columns_about y.rows (pos old.id)) (indexes_about y.rows (pos old.id))
          (own_rows p.0 p.1 old.id (changed_table_row change (dropped_table old) ∷ []) (changed_starts change (dropped_table old), tt) y.rows.tables x.rows.tables entered.tables)
          (filtered is_column_row (items_about y.rows (pos old.id)) (items_about x.rows (pos old.id)) items) (filtered (λ r. not (is_column_row r)) (items_about y.rows (pos old.id)) (items_about x.rows (pos old.id)) items)
          bound (length old.columns) old.dropped
          (told_with_table T C I new
          (all_filter (λ (r : PlacedRow). stands_before r.place (p.0, p.1) ≡ true) (λ r. not (is_column_row r)) (items_about x.rows (pos old.id))
          (all_filter (λ (r : PlacedRow). stands_before r.place (p.0, p.1) ≡ true) (is_about_table (pos old.id)) x.rows.items around.earlier.items))
          (all_weaker (λ (r : PlacedRow). change_of 0 r.row <ℤ pos change) (λ (s : PlacedRow). is_past 0 s.row new.row ≡ false) (λ s lt. not_past 0 s.row new.row (omega (arith, ints, lt))) T next.tables)
          bound (length old.columns) old.dropped said)

-- ---- the columns that ALTER TABLE adds and drops

last_or_below : (n j : ℕ) → j ≤ suc n → (j ≡ suc n) ⊎ (j ≤ n)
last_or_below zero zero le = inr (omega arith)
last_or_below zero (suc zero) le = inl refl
last_or_below zero (suc (suc j)) le = absurd (omega (arith, le))
last_or_below (suc n) zero le = inr (omega arith)
last_or_below (suc n) (suc j) le = elim (last_or_below n j (omega (arith, le))) [ inl e ↦ inl (ap suc e) | inr lt ↦ inr (omega (arith, lt)) ]

-- a row about a column that none of these rows is about is past none of them
past_none : (count : ℕ) (dropped : List ℕ) (C : List PlacedRow) (new : PlacedRow) (ordinal : ℕ) → IsOf 1 ordinal new → count < ordinal → (rows : List PlacedRow) → AllByRecursion (IsOfColumn count dropped C) rows → IsSecond 1 rows new → ⊥
past_none count dropped C new ordinal of lt [] h second = second
past_none count dropped C new ordinal of lt (c ∷ cs) h second = elim second [
  | inl e ↦ (let k : IsOfColumn count dropped C c = h.0 in let within = k.within in
      let same : ordinal ≡ k.ordinal = one_number ordinal k.ordinal (sym of ∙ (past 1 new.row c.row e).0 ∙ k.of) in omega (arith, same, within, lt))
  | inr more ↦ past_none count dropped C new ordinal of lt cs h.1 more
]

added_column : (old : TableDef) (c : ColumnDef) (C : List PlacedRow) → AllByRecursion (IsOfColumn (length old.columns) old.dropped C) C → (new : PlacedRow) → IsOf 1 (suc (length old.columns)) new
    → NewColumn (length old.columns) old.dropped C new (length (old.columns ++ column_to_add c ∷ [])) old.dropped
added_column old c C h new of =
    let n : ℕ = length old.columns in
    let long = length-append old.columns (column_to_add c ∷ []) in
    record {
      ordinal = suc n;
      of = of;
      within = omega (arith, long);
      more = omega (arith, long);
      reach = λ j le. last_or_below n j (omega (arith, le, long));
      still = λ j e. e;
      ends = λ second. absurd (past_none n old.dropped C new (suc n) of (omega arith) C h second);
      second = λ from within. absurd (omega (arith, within));
    }

-- what was among them is so still, and the new number is
module _ (n : ℕ) where
  still_among_more : (j : ℕ) (ns : List ℕ) → is_among ns j ≡ true → is_among (inserted nat_cmp n ns) j ≡ true
  still_among_more j [] e = cc
  still_among_more j (m ∷ ms) e = here (is_gt (nat_cmp n m)) (m == j) refl e (still_among_more j ms)
    where
      here : (b c : Bool) → (m == j) ≡ c → (c || is_among ms j) ≡ true → (is_among ms j ≡ true → is_among (inserted nat_cmp n ms) j ≡ true) → is_among (if b then m ∷ inserted nat_cmp n ms else n ∷ m ∷ ms) j ≡ true
      here true true is f g = rw is refl
      here true false is f g = rw is (g f)
      here false true is f g = or_second (n == j) ((m == j) || is_among ms j) (rw is refl)
      here false false is f g = or_second (n == j) ((m == j) || is_among ms j) (rw is f)

  itself_among : (ns : List ℕ) → is_among (inserted nat_cmp n ns) n ≡ true
  itself_among [] = rw (eq-eqb n n refl) refl
  itself_among (m ∷ ms) = here (is_gt (nat_cmp n m)) (itself_among ms)
    where
      here : (b : Bool) → is_among (inserted nat_cmp n ms) n ≡ true → is_among (if b then m ∷ inserted nat_cmp n ms else n ∷ m ∷ ms) n ≡ true
      here true e = or_second (m == n) (is_among (inserted nat_cmp n ms) n) e
      here false e = rw (eq-eqb n n refl) refl

gone_column : (old : TableDef) (i : ℕ) (d : ColumnDef) (C : List PlacedRow) → i < length old.columns → EachColumn (length old.columns) C → (new : PlacedRow) → IsOf 1 (suc i) new
    → AllByRecursion (λ (c : PlacedRow). change_of 1 c.row <ℤ change_of 1 new.row) C → NewColumn (length old.columns) old.dropped C new (length (slice_set old.columns i d)) (inserted nat_cmp (suc i) old.dropped)
gone_column old i d C lt each new of less =
    let long = length-set old.columns i d in
    record {
      ordinal = suc i;
      of = of;
      within = omega (arith, long, lt);
      more = omega (arith, long);
      reach = λ j le. inr (omega (arith, le, long));
      still = λ j e. still_among_more (suc i) j old.dropped e;
      ends = λ second. itself_among (suc i) old.dropped;
      second = λ from within.
          some_weaker (λ (c : PlacedRow). IsOf 1 (suc i) c × (change_of 1 c.row <ℤ change_of 1 new.row)) (λ (c : PlacedRow). is_past 1 new.row c.row ≡ true) (λ c q. past_where 1 new.row c.row (of ∙ sym q.0) q.1) C
          (some_of_all (IsOf 1 (suc i)) (λ (c : PlacedRow). change_of 1 c.row <ℤ change_of 1 new.row) C (each (suc i) from within) less);
    }

-- ---- each statement

max_here : (n : ℕ) → n ≤ 64 → suc n < 1000
max_here n le = omega (arith, le)

pub indexes_kept : StepsKeep AllInTime
indexes_kept = record {
  table_created = λ p x y around c def passed entered defs h. (tables_told_kept.table_created p x y around c def passed entered defs h.0, created_in_time p x y around c def passed entered defs h.1);
  index_created = λ p x y around c i passed st entered defs h. (tables_told_kept.index_created p x y around c i passed st entered defs h.0, index_in_time p x y around c i passed st entered defs h);
  column_added = λ p x y around table c w a st change next entered h. (
    tables_told_kept.column_added p x y around table c w a st change next entered h.0,
    column_in_time p x y around a.found.0 (added_to a.found.0 c) st.among refl refl (max_here (length a.found.0.columns) (of_among Formed x.defs around.before.formed a.found.0 st.among).count) change next entered
        (λ each columns new of less. added_column a.found.0 c (columns_about x.rows (pos a.found.0.id)) columns new of) h,
  );
  column_dropped = λ p x y around table name w d st change next entered h.
      (let within = slice_get_within d.found.0.columns d.column.0 d.column.1 d.live.at in
      let few = (of_among Formed x.defs around.before.formed d.found.0 st.among).count in (
        tables_told_kept.column_dropped p x y around table name w d st change next entered h.0,
        column_in_time p x y around d.found.0 (dropped_from d.found.0 d.column) st.among refl refl (omega (arith, within, few)) change next entered
            (λ each columns new of less. gone_column d.found.0 d.column.0 (dropped_column (suc d.column.0) d.column.1) (columns_about x.rows (pos d.found.0.id)) within each new of less) h,
      ));
  table_dropped = λ p x y around name def d st change next entered defs h. (
    tables_told_kept.table_dropped p x y around name def d st change next entered defs h.0,
    gone_in_time p x y around d.found.0 st.among change next entered defs h,
  );
}

pub nothing_in_time : AllInTime nothing
nothing_in_time = (first_tables_told, λ d among. absurd among)
