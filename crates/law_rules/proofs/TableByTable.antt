-- What each statement keeps of the rows about one table and those about its columns.
use Rattle.std.proofs.Common.{◌≡◌, ◌≢◌, ◌≤◌, ◌<◌, ℕ, pos, ◌+◌, inl, inr, refl, sym, ap, subst, ◌∙◌, arith, true, false, List, [], ◌∷◌, ◌++◌, length, Ok, filter, append-nil}
use Rattle.std.proofs.lemmas.Bool.{eq-eqb, leb-false}
use Rattle.std.proofs.lemmas.Int.{ints}
use Rattle.std.proofs.lemmas.Option.{slice_get_within}
use Rattle.std.specs.Prelude.{◌==◌, ◌<ℤ◌}
use Rattle.std.specs.List.{AllByRecursion}
use Rattle.std.specs.List.Sorted.{IsPermutation}
use Rattle.sql_value.specs.declared.column.ColumnDef.{ColumnDef}
use Rattle.sql_types.specs.declared.statement.CreateTable.{CreateTable}
use Rattle.sql_types.specs.declared.table.IndexDef.{IndexDef}
use Rattle.sql_types.specs.declared.table.TableDef.{TableDef}
use Rattle.spec_model.specs.Alter.{WithColumn, added_to, dropped_from, dropped_table}
use Rattle.spec_model.specs.Catalog.{Defs}
use Rattle.spec_model.specs.Create.{create_check, next_id, table_def, with_index}
use Rattle.spec_model.specs.Limits.{max_columns}
use Rattle.spec_model.specs.Rows.{Row}
use Rattle.spec_model.specs.SystemTables.{table_row, column_rows, index_rows, changed_table_row, changed_column_row}
use Rattle.law_frame.proofs.Alls.{all_both, all_append, all_filter}
use Rattle.law_frame.proofs.Alterations.{Added, ColumnDropped, Live}
use Rattle.law_journal.proofs.Created.{Created, created}
use Rattle.law_journal.proofs.DefLists.{redef}
use Rattle.law_catalog_rows.specs.Encoded.{IsAmong, about}
use Rattle.law_catalog_rows.specs.Formed.{Formed}
use Rattle.law_catalog_rows.specs.IsEncodableDef.{is_encodable_def}
use Rattle.law_catalog_rows.specs.Latest.{change_of}
use Rattle.law_catalog_rows.proofs.About.{StartsWith, table_starts}
use Rattle.law_catalog_rows.proofs.Defs.{HasId, has_id, of_among, last_among}
use Rattle.law_catalog_rows.proofs.Forms.{new_def}
use Rattle.law_catalog_rows.proofs.Orders.{filtered}
use Rattle.spec_rules.specs.Places.{EventPlace, PlacedRow, stands_before}
use Rattle.spec_rules.specs.Rows.{is_about_table, is_column_row, tables_about, columns_about}
use Rattle.law_rules.specs.Steps.{Catalog, Entered, Stands, all_defs, placed_from, rows_alone}
use Rattle.law_rules.proofs.ColumnNames.{IsNone, IsOne, columns_of, in_order, none_more, one_more, all_more, index_none, columns_none, columns_one, changed_none, changed_one, redef_all}
use Rattle.law_rules.proofs.Kept.{Around, ColumnEntered, IsNext, StepsKeep}
use Rattle.law_rules.proofs.NamesKept.{only_one}
use Rattle.law_rules.proofs.Orders.{own_rows, other_rows, none_about}

-- ---- what to show of one table

-- the rows about a table and those about its columns stand before the place, and have lesser changes
pub record AreBelow (place : EventPlace) (change : ℕ) (first second : List PlacedRow) : Type 0 where
  pub above : 1 ≤ change
  pub tables : AllByRecursion (λ (r : PlacedRow). (change_of 0 r.row <ℤ pos change) × (stands_before r.place place ≡ true)) first
  pub columns : AllByRecursion (λ (r : PlacedRow). (change_of 1 r.row <ℤ pos change) × (stands_before r.place place ≡ true)) second

pub record IsNewTable (def : TableDef) : Type 0 where
  pub encodable : is_encodable_def def ≡ true
  pub there : def.gone ≡ false
  pub whole : def.dropped ≡ []

-- the row of a column that changed
abbrev pub column_changed : EventPlace → ℕ → WithColumn → PlacedRow
column_changed place change w = record { place = place; row = changed_column_row change w.0 w.1 }

abbrev pub table_changed : EventPlace → ℕ → TableDef → PlacedRow
table_changed place change def = record { place = place; row = changed_table_row change def }

-- of the rows about a table, of those about its columns, and of its definition
pub record EachKeeps (Q : List PlacedRow → List PlacedRow → TableDef → Type 0) : Type 0 where
  pub in_order : (T U C D : List PlacedRow) (d : TableDef) → IsPermutation U T → IsPermutation D C → Q T C d → Q U D d
  pub created : (p : EventPlace) (d : TableDef) → IsNewTable d → Q (record { place = p; row = table_row d } ∷ []) (placed_from p.0 (p.1 + 1) (column_rows d)) d
  pub indexed : (T C : List PlacedRow) (d : TableDef) (i : IndexDef) → Q T C d → Q T C (with_index d i)
  pub added : (place : EventPlace) (change : ℕ) (T C : List PlacedRow) → AreBelow place change T C → (d : TableDef) (c : ColumnDef) → d.gone ≡ false
      → is_encodable_def d ≡ true → is_encodable_def (added_to d c).0 ≡ true → Q T C d → Q T (column_changed place change (added_to d c) ∷ C) (added_to d c).0
  pub dropped : (place : EventPlace) (change : ℕ) (T C : List PlacedRow) → AreBelow place change T C → (d : TableDef) (name : List ℕ) (c : ℕ × ColumnDef) → Live d name c → d.gone ≡ false
      → Q T C d → Q T (column_changed place change (dropped_from d c) ∷ C) (dropped_from d c).0
  pub gone : (place : EventPlace) (change : ℕ) (T C : List PlacedRow) → AreBelow place change T C → (d : TableDef) → d.gone ≡ false
      → Q T C d → Q (table_changed place change (dropped_table d) ∷ T) C (dropped_table d)

-- ---- definitions

new_among : (old new : TableDef) → new.id ≡ old.id → (ds : Defs) → IsAmong old ds → IsAmong new (redef new ds)
new_among old new id [] a = absurd a
new_among old new id (d ∷ ds) a = elim a [
  | inl e ↦ inl (let same : (d.id == new.id) ≡ true = eq-eqb d.id new.id (ap (λ (t : TableDef). t.id) e ∙ sym id) in rw same refl)
  | inr more ↦ inr (new_among old new id ds more)
]

gone_id : (d : TableDef) → (dropped_table d).id ≡ d.id
unfolding dropped_table
gone_id d = refl

changed_starts : (change : ℕ) (def : TableDef) → StartsWith def.id (changed_table_row change def)
unfolding changed_table_row
changed_starts change def = (_, refl)

created_whole : (id : ℕ) (c : CreateTable) → ((table_def id c).gone ≡ false) × ((table_def id c).dropped ≡ [])
unfolding table_def
created_whole id c = (refl, refl)

-- ---- each statement

module _ (Q : List PlacedRow → List PlacedRow → TableDef → Type 0) (k : EachKeeps Q) where
  abbrev pub OfOne : Catalog → TableDef → Type 0
  OfOne x d = Q (tables_about x.rows (pos d.id)) (columns_about x.rows (pos d.id)) d

  abbrev pub OfEach : Catalog → Type 0
  OfEach x = AllByRecursion (OfOne x) x.defs

  module _ (p : EventPlace) (x y : Catalog) (around : Around p x y) where
    abbrev tables_of : Catalog → ℕ → List PlacedRow
    tables_of z id = tables_about z.rows (pos id)

    abbrev its_columns : Catalog → ℕ → List PlacedRow
    its_columns z id = columns_about z.rows (pos id)

    same_tables : (id : ℕ) → IsPermutation y.rows.tables x.rows.tables → IsPermutation (tables_of y id) (tables_of x id)
    same_tables id h = filtered (is_about_table (pos id)) y.rows.tables x.rows.tables h

    same_columns : (id m j : ℕ) (rows : List Row) → IsPermutation y.rows.items (placed_from m j rows ++ x.rows.items) → AllByRecursion (IsNone id) rows → IsPermutation (its_columns y id) (its_columns x id)
    same_columns id m j rows h none = subst (IsPermutation (its_columns y id)) (none_more id m j rows x.rows.items none) (in_order id y.rows.items (placed_from m j rows ++ x.rows.items) h)

    unchanged : (d : TableDef) → IsPermutation (tables_of y d.id) (tables_of x d.id) → IsPermutation (its_columns y d.id) (its_columns x d.id) → OfOne x d → OfOne y d
    unchanged d t c q = k.in_order (tables_of x d.id) (tables_of y d.id) (its_columns x d.id) (its_columns y d.id) d t c q

    encodable_after : (new : TableDef) → IsAmong new y.defs → is_encodable_def new ≡ true
    encodable_after new among = of_among (λ d. is_encodable_def d ≡ true) y.defs around.after.encodable new among

    is_below : (n change : ℕ) → p.1 ≡ n → (old : TableDef) → IsNext change x old → AreBelow (p.0, n) change (tables_of x old.id) (its_columns x old.id)
    is_below n change at old next = record {
      above = next.above;
      tables = all_both (λ (r : PlacedRow). change_of 0 r.row <ℤ pos change) (λ (r : PlacedRow). stands_before r.place (p.0, n) ≡ true) (tables_of x old.id) next.tables
          (all_filter (λ (r : PlacedRow). stands_before r.place (p.0, n) ≡ true) (is_about_table (pos old.id)) x.rows.tables
          (subst (λ (m : ℕ). AllByRecursion (λ (r : PlacedRow). stands_before r.place (p.0, m) ≡ true) x.rows.tables) at around.earlier.tables));
      columns = all_both (λ (r : PlacedRow). change_of 1 r.row <ℤ pos change) (λ (r : PlacedRow). stands_before r.place (p.0, n) ≡ true) (its_columns x old.id)
          (all_filter (λ (r : PlacedRow). change_of 1 r.row <ℤ pos change) is_column_row (filter (is_about_table (pos old.id)) x.rows.items) next.items)
          (all_filter (λ (r : PlacedRow). stands_before r.place (p.0, n) ≡ true) is_column_row (filter (is_about_table (pos old.id)) x.rows.items)
          (all_filter (λ (r : PlacedRow). stands_before r.place (p.0, n) ≡ true) (is_about_table (pos old.id)) x.rows.items
          (subst (λ (m : ℕ). AllByRecursion (λ (r : PlacedRow). stands_before r.place (p.0, m) ≡ true) x.rows.items) at around.earlier.items)));
    }

    -- another definition in the place of the one of its table
    redefined : (old new : TableDef) → IsAmong old x.defs → new.id ≡ old.id → y.defs ≡ redef new x.defs → (OfOne x old → OfOne y new)
        → ((d : TableDef) → (new.id ≡ d.id → ⊥) → OfOne x d → OfOne y d) → OfEach x → OfEach y
    redefined old new among id defs f g h =
        subst (AllByRecursion (OfOne y)) (sym defs) (redef_all (OfOne x) (OfOne y) old new id f g x.defs (only_one 3 old x.defs around.before.ids among) h)

    -- CREATE TABLE
    module _ (c : CreateTable) (def : TableDef) (passed : create_check (all_defs x) c ≡ Ok def) (entered : Entered p (table_row def ∷ []) (column_rows def) x y) (defs : y.defs ≡ x.defs ++ def ∷ []) where
      facts : Created (all_defs x) def
      facts = created (all_defs x) c def passed

      below : (d : TableDef) → IsAmong d x.defs → d.id < def.id
      below d among = let r : HasId 3 x.defs d = has_id 3 x.defs around.before.ids d among in let id = facts.id in omega (arith, r.below, id)

      unlike : (d : TableDef) → IsAmong d x.defs → pos d.id ≢ pos def.id
      unlike d among e = let lt = below d among in omega (arith, ints, e, lt)

      new_table : IsNewTable def
      new_table =
          let is = (new_def (all_defs x) c def passed).is in
          let whole = created_whole (next_id (all_defs x)) c in
          record {
            encodable = encodable_after def (subst (IsAmong def) (sym defs) (last_among x.defs def));
            there = ap (λ (e : TableDef). e.gone) is ∙ whole.0;
            whole = ap (λ (e : TableDef). e.dropped) is ∙ whole.1;
          }

      none_of_it : (about (pos def.id) (rows_alone x.rows.tables) ≡ []) × (about (pos def.id) (rows_alone x.rows.items) ≡ [])
      none_of_it = around.before.encoded.others (pos def.id) unlike

      own_tables : IsPermutation (tables_of y def.id) (record { place = p; row = table_row def } ∷ [])
      own_tables =
          subst (λ (rows : List PlacedRow). IsPermutation (tables_of y def.id) (record { place = p; row = table_row def } ∷ rows)) (none_about (pos def.id) x.rows.tables none_of_it.0)
          (own_rows p.0 p.1 def.id (table_row def ∷ []) (table_starts def, tt) y.rows.tables x.rows.tables entered.tables)

      all_own : AllByRecursion (IsOne def.id) (column_rows def)
      unfolding column_rows
      all_own = let count = facts.count in columns_one def.id 1 def.columns (omega (arith, count))

      none_own : (id : ℕ) → (def.id ≡ id → ⊥) → AllByRecursion (IsNone id) (column_rows def)
      unfolding column_rows
      none_own id ne = columns_none id def.id 1 def.columns ne

      own_columns : IsPermutation (its_columns y def.id) (placed_from p.0 (p.1 + 1) (column_rows def))
      own_columns =
          let rows : List PlacedRow = placed_from p.0 (p.1 + 1) (column_rows def) in
          let empty : columns_of def.id x.rows.items ≡ [] = ap (filter is_column_row) (none_about (pos def.id) x.rows.items none_of_it.1) in
          let more : columns_of def.id (rows ++ x.rows.items) ≡ rows = all_more def.id p.0 (p.1 + 1) (column_rows def) x.rows.items all_own ∙ ap (λ (l : List PlacedRow). rows ++ l) empty ∙ append-nil rows in
          subst (IsPermutation (its_columns y def.id)) more (in_order def.id y.rows.items (rows ++ x.rows.items) entered.items)

      others : (ds : Defs) → ((d : TableDef) → IsAmong d ds → IsAmong d x.defs) → AllByRecursion (OfOne x) ds → AllByRecursion (OfOne y) ds
      others [] in_all h = tt
      others (d ∷ ds) in_all h =
          let there : IsAmong d x.defs = in_all d (inl refl) in
          let lt = below d there in
          let ne : def.id ≡ d.id → ⊥ = λ e. omega (arith, e, lt) in (
            unchanged d (other_rows p.0 p.1 def.id (table_row def ∷ []) (table_starts def, tt) y.rows.tables x.rows.tables entered.tables (pos d.id) (λ e. unlike d there (sym e)))
                (same_columns d.id p.0 (p.1 + 1) (column_rows def) entered.items (none_own d.id ne)) h.0,
            others ds (λ e among. in_all e (inr among)) h.1,
          )

      create_kept : OfEach x → OfEach y
      create_kept h =
          subst (AllByRecursion (OfOne y)) (sym defs) (all_append (OfOne y) x.defs (def ∷ []) (others x.defs (λ d among. among) h)
          (k.in_order (record { place = p; row = table_row def } ∷ []) (tables_of y def.id) (placed_from p.0 (p.1 + 1) (column_rows def)) (its_columns y def.id) def own_tables own_columns (k.created p def new_table), tt))

    -- CREATE INDEX
    index_kept : (i : TableDef × IndexDef) → IsAmong i.0 x.defs → Entered p [] (index_rows i.0.id (length i.0.indexes + 1) i.1) x y → y.defs ≡ redef (with_index i.0 i.1) x.defs → OfEach x → OfEach y
    index_kept i among entered defs h =
        let old : TableDef = i.0 in
        let rows : List Row = index_rows old.id (length old.indexes + 1) i.1 in
        let columns : (id : ℕ) → IsPermutation (its_columns y id) (its_columns x id) = λ id. same_columns id p.0 (p.1 + 0) rows entered.items (index_none id old i.1) in
        redefined old (with_index old i.1) among refl defs
        (λ q. k.in_order (tables_of x old.id) (tables_of y old.id) (its_columns x old.id) (its_columns y old.id) (with_index old i.1) (same_tables old.id entered.tables) (columns old.id) (k.indexed (tables_of x old.id) (its_columns x old.id) old i.1 q))
        (λ d ne q. unchanged d (same_tables d.id entered.tables) (columns d.id) q) h

    -- ALTER TABLE
    column_kept : (old : TableDef) (w : WithColumn) → IsAmong old x.defs → w.0.id ≡ old.id → w.1.0 < 1000 → (change : ℕ) → ColumnEntered p change w x y
        → (Q (tables_of x old.id) (its_columns x old.id) old → Q (tables_of x old.id) (column_changed (p.0, p.1 + 0) change w ∷ its_columns x old.id) w.0) → OfEach x → OfEach y
    column_kept old w among id few change entered step h =
        let row : Row = changed_column_row change w.0 w.1 in
        let new : PlacedRow = column_changed (p.0, p.1 + 0) change w in
        let one : IsOne old.id row = subst (λ (i : ℕ). IsOne i row) id (changed_one change w.0 w.1 few) in
        let own : IsPermutation (its_columns y old.id) (new ∷ its_columns x old.id) =
        subst (IsPermutation (its_columns y old.id)) (one_more old.id new x.rows.items one) (in_order old.id y.rows.items (new ∷ x.rows.items) entered.rows.items) in
        redefined old w.0 among id entered.defs
        (λ q. subst (λ (i : ℕ). Q (tables_of y i) (its_columns y i) w.0) (sym id)
        (k.in_order (tables_of x old.id) (tables_of y old.id) (new ∷ its_columns x old.id) (its_columns y old.id) w.0 (same_tables old.id entered.rows.tables) own (step q)))
        (λ d ne q. unchanged d (same_tables d.id entered.rows.tables) (same_columns d.id p.0 (p.1 + 0) (row ∷ []) entered.rows.items (changed_none d.id change w.0 w.1 ne, tt)) q) h

    add_kept : (table : List ℕ) (c : ColumnDef) (w : WithColumn) (a : Added (all_defs x) table c w) → Stands x a.found.0 → (change : ℕ) → IsNext change x a.found.0
        → ColumnEntered p change (added_to a.found.0 c) x y → OfEach x → OfEach y
    add_kept table c w a st change next entered h =
        let old : TableDef = a.found.0 in
        let new : TableDef = (added_to old c).0 in
        let before : is_encodable_def old ≡ true = of_among (λ d. is_encodable_def d ≡ true) x.defs around.before.encodable old st.among in
        let after : is_encodable_def new ≡ true = encodable_after new (subst (IsAmong new) (sym entered.defs) (new_among old new refl x.defs st.among)) in
        let lt = leb-false max_columns (length old.columns) a.room in
        column_kept old (added_to old c) st.among refl (omega (arith, lt)) change entered
        (k.added (p.0, p.1 + 0) change (tables_of x old.id) (its_columns x old.id) (is_below (p.1 + 0) change (omega arith) old next) old c st.there before after) h

    drop_kept : (table name : List ℕ) (w : WithColumn) (d : ColumnDropped (all_defs x) table name w) → Stands x d.found.0 → (change : ℕ) → IsNext change x d.found.0
        → ColumnEntered p change (dropped_from d.found.0 d.column) x y → OfEach x → OfEach y
    drop_kept table name w d st change next entered h =
        let old : TableDef = d.found.0 in
        let formed : Formed old = of_among Formed x.defs around.before.formed old st.among in
        let count = formed.count in
        let lt = slice_get_within old.columns d.column.0 d.column.1 d.live.at in
        column_kept old (dropped_from old d.column) st.among refl (omega (arith, lt, count)) change entered
        (k.dropped (p.0, p.1 + 0) change (tables_of x old.id) (its_columns x old.id) (is_below (p.1 + 0) change (omega arith) old next) old name d.column d.live st.there) h

    -- DROP TABLE
    gone_kept : (old : TableDef) → Stands x old → (change : ℕ) → IsNext change x old → Entered p (changed_table_row change (dropped_table old) ∷ []) [] x y → y.defs ≡ redef (dropped_table old) x.defs → OfEach x → OfEach y
    gone_kept old st change next entered defs h =
        let new : TableDef = dropped_table old in
        let row : PlacedRow = table_changed p change new in
        let own : IsPermutation (tables_of y new.id) (row ∷ tables_of x new.id) = own_rows p.0 p.1 new.id (changed_table_row change new ∷ []) (changed_starts change new, tt) y.rows.tables x.rows.tables entered.tables in
        let columns : (id : ℕ) → IsPermutation (its_columns y id) (its_columns x id) = λ id. same_columns id p.0 (p.1 + 1) [] entered.items tt in
        redefined old new st.among (gone_id old) defs
        (λ q. k.in_order (row ∷ tables_of x new.id) (tables_of y new.id) (its_columns x new.id) (its_columns y new.id) new own (columns new.id)
        (subst (λ (i : ℕ). Q (row ∷ tables_of x i) (its_columns x i) new) (sym (gone_id old))
        (k.gone p change (tables_of x old.id) (its_columns x old.id) (is_below p.1 change refl old next) old st.there q)))
        (λ d ne q. unchanged d (other_rows p.0 p.1 new.id (changed_table_row change new ∷ []) (changed_starts change new, tt) y.rows.tables x.rows.tables entered.tables (pos d.id) (λ e. ne (omega (arith, ints, e)))) (columns d.id) q) h

  pub each_kept : StepsKeep OfEach
  each_kept = record {
    table_created = λ p x y around c def passed entered defs h. create_kept p x y around c def passed entered defs h;
    index_created = λ p x y around c i passed st entered defs h. index_kept p x y around i st.among entered defs h;
    column_added = λ p x y around table c w a st change next entered h. add_kept p x y around table c w a st change next entered h;
    column_dropped = λ p x y around table name w d st change next entered h. drop_kept p x y around table name w d st change next entered h;
    table_dropped = λ p x y around name def d st change next entered defs h. gone_kept p x y around d.found.0 st change next entered defs h;
  }
