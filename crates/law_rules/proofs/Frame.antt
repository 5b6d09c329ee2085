-- What each statement keeps that enters rows in the tables of the system, legal journals keep.
use Rattle.std.proofs.Common.{◌≡◌, ◌≤◌, ◌<◌, ℕ, ◌+◌, inl, inr, refl, sym, ap, ap₂, subst, ◌∙◌, Bool, true, false, List, [], ◌∷◌, ◌++◌, map, length, Ok, Err, Option, None, arith}
use Rattle.std.proofs.lemmas.Bool.{ne_eqb}
use Rattle.std.proofs.lemmas.List.Sorted.{IsPermutation-refl, IsPermutation-trans, IsPermutation-cons, IsPermutation-append_right, IsPermutation-middle}
use Rattle.std.specs.Prelude.{if◌then◌else◌, pos, ◌<ℤ◌, ◌&&◌, not}
use Rattle.std.specs.List.{AllByRecursion, filter}
use Rattle.std.specs.List.Sorted.{IsPermutation}
use Rattle.std.specs.Ordering.{is_gt}
use Rattle.std.specs.declared.cmp.Ordering.{Ordering}
use Rattle.sql_value.specs.declared.column.ColumnDef.{ColumnDef}
use Rattle.sql_value.specs.declared.refusal.Refusal.TheVariants.{NoSuchTable, NameConflict, LimitExceeded, ReadOnlyTable, NoSuchColumn}
use Rattle.sql_types.specs.declared.journal.JournalItem.{JournalItem}
use Rattle.sql_types.specs.declared.statement.Alter.{Alter}
use Rattle.sql_types.specs.declared.statement.Alter.TheVariants.{Add, DropColumn}
use Rattle.sql_types.specs.declared.statement.CreateIndex.{CreateIndex}
use Rattle.sql_types.specs.declared.statement.CreateTable.{CreateTable}
use Rattle.sql_types.specs.declared.statement.RowStmt.{RowStmt}
use Rattle.sql_types.specs.declared.statement.RowStmt.TheVariants.{Delete, Insert, Update}
use Rattle.sql_types.specs.declared.statement.Select.{Select}
use Rattle.sql_types.specs.declared.statement.Stmt.{Stmt}
use Rattle.sql_types.specs.declared.statement.Stmt.TheVariants as s
use Rattle.sql_types.specs.declared.table.IndexDef.{IndexDef}
use Rattle.sql_types.specs.declared.table.Part.{Part}
use Rattle.sql_types.specs.declared.table.Part.TheVariants.{Base, History, View, System}
use Rattle.sql_types.specs.declared.table.TableDef.{TableDef}
use Rattle.sql_types.specs.declared.version.Table.{Table}
use Rattle.sql_types.specs.declared.version.TypedValue.{TypedValue}
use Rattle.sql_types.specs.declared.version.Version.{Version}
use Rattle.spec_model.specs.Agreement.{IdsFrom}
use Rattle.spec_model.specs.Alter.{WithColumn, added_to, dropped_from, dropped_table, alter_check, drop_check, next_change, Altered, altered_table, gone_table, alteration, table_drop}
use Rattle.spec_model.specs.Catalog.{Defs, NamedPart, Tables, defs_of, versions_of, find_part, changed_table, with_versions}
use Rattle.spec_model.specs.Changes.{Changes, Starts, changed, changed_all, row_changes}
use Rattle.spec_model.specs.Checks.{delete_check, insert_check, is_base, is_standing, row_check, row_statement_check, table_of, update_check}
use Rattle.spec_model.specs.Create.{create_check, index_check, index_check_in, index_def, with_index}
use Rattle.spec_model.specs.Effect.{effect, done, row_effect, shown, query_rows, query_effect, table_start, column_starts, table_effect, redefined, index_effect, altered_effect}
use Rattle.spec_model.specs.Journals.{serial, IsLegal}
use Rattle.spec_model.specs.Lists.{inserted}
use Rattle.spec_model.specs.Query.{query_check}
use Rattle.spec_model.specs.Refusals.{Checked, or_refused}
use Rattle.spec_model.specs.Rows.{Row, EventId, start_cmp, started, stored_row, value_or_null, values_of, live}
use Rattle.spec_model.specs.Script.{Reading}
use Rattle.spec_model.specs.SystemTables.{tables_id, columns_id, tables_columns, columns_columns, first_tables, table_row, column_rows, index_rows, changed_table_row, changed_column_row}
use Rattle.law_frame.proofs.Alls.{all_map}
use Rattle.law_frame.proofs.Alterations.{Added, added, ColumnDropped, column_dropped, TableDropped, table_dropped}
use Rattle.law_frame.proofs.Alterations as alterations
use Rattle.law_frame.proofs.BaseTables.{base_alone, found_is_users, users_table}
use Rattle.law_frame.proofs.Definitions as definitions
use Rattle.law_frame.proofs.NamedPart.{Passed, passed}
use Rattle.law_frame.proofs.SoundStatements.{statement_sound}
use Rattle.law_frame.proofs.Checked.{Led, led, not_refused, was_passed}
use Rattle.law_journal.specs.AppendOnly.{AllKeepRows}
use Rattle.law_journal.specs.Described.{Described}
use Rattle.law_journal.specs.Fine.{OfTable}
use Rattle.law_journal.specs.Kept.{IsEarlier, IsPast, Kept}
use Rattle.law_journal.specs.Serial.{place_in}
use Rattle.law_journal.proofs.AppendOnly.{statement_keeps_rows as statement_keeps_all_rows}
use Rattle.law_journal.proofs.Altered.{by_alter, by_drop}
use Rattle.law_journal.proofs.Created.{indexed}
use Rattle.law_journal.proofs.DefLists.{defs_append, defs_redefined}
use Rattle.law_journal.proofs.Lift.{found_table, of_weaker}
use Rattle.law_journal.proofs.Statements.{has_indexed_table}
use Rattle.law_catalog_rows.specs.Encoded.{live_rows, about, is_about, IsAmong, EncodeEach, HaveTheirRows}
use Rattle.law_catalog_rows.specs.Formed.{Formed, AllFormed}
use Rattle.law_catalog_rows.specs.IsEncodableDef.{is_encodable_def}
use Rattle.law_catalog_rows.specs.Latest.{change_of}
use Rattle.law_catalog_rows.specs.Written.{StatementWritten, ReadsWritten, Written, AllWritten}
use Rattle.law_catalog_rows.proofs.ChangedTables.{system_changed, users_changed}
use Rattle.law_catalog_rows.proofs.Defs.{of_among}
use Rattle.law_catalog_rows.proofs.FormedAfter.{statement_formed, first_formed}
use Rattle.law_catalog_rows.proofs.Forms.{indexed_is_users}
use Rattle.law_catalog_rows.proofs.LiveRows.{IsWhole}
use Rattle.law_catalog_rows.proofs.MayBe.{may_be}
use Rattle.law_catalog_rows.proofs.NextRow.{above_tables, above_items, next_change_in}
use Rattle.law_catalog_rows.proofs.RowsAfter.{statement_keeps_rows, first_has_rows, same_change, table_row_whole, changed_table_row_whole, changed_column_row_whole, column_rows_whole, index_rows_whole}
use Rattle.law_catalog_rows.proofs.WrittenAfter.{statement_written, first_written}
use Rattle.law_catalog_time.proofs.WithPlaces.{legal_keeps_in_place}
use Rattle.spec_rules.specs.Places.{PlacedRow, stands_before}
use Rattle.spec_rules.specs.Rows.{is_about_table}
use Rattle.law_rules.specs.Steps.{Catalog, Ground, Stands, all_defs, catalog_of, nothing, placed_from, row_at, rows_alone, rows_at, users_of}
use Rattle.law_rules.proofs.InOrder.{before_so}
use Rattle.law_rules.proofs.Kept.{Around, ColumnEntered, IsNext, StepsKeep, UsersAt, UsersKeep, UsersStep, of_catalogs, users_step}

-- ---- rows that start, with their places

past_one : {A : Type 0} (a b : A) (xs ys : List A) → IsPermutation xs (a ∷ ys) → IsPermutation (b ∷ xs) (a ∷ b ∷ ys)
past_one a b xs ys h = IsPermutation-trans (b ∷ xs) (b ∷ a ∷ ys) (a ∷ b ∷ ys) (IsPermutation-cons b xs (a ∷ ys) h) (IsPermutation-middle (b ∷ []) a ys)

inserted_map : {A B : Type 0} (f : A → B) (cmp : A → A → Ordering) (x : A) (ys : List A) → IsPermutation (map f (inserted cmp x ys)) (f x ∷ map f ys)
inserted_map f cmp x [] = IsPermutation-refl (f x ∷ [])
inserted_map f cmp x (y ∷ ys) = here (is_gt (cmp x y)) (inserted_map f cmp x ys)
  where
    here : (b : Bool) → IsPermutation (map f (inserted cmp x ys)) (f x ∷ map f ys) → IsPermutation (map f (if b then y ∷ inserted cmp x ys else x ∷ y ∷ ys)) (f x ∷ f y ∷ map f ys)
    here true h = past_one (f x) (f y) (map f (inserted cmp x ys)) (map f ys) h
    here false h = IsPermutation-refl (f x ∷ f y ∷ map f ys)

module _ (place : ℕ → ℕ) (columns : List ColumnDef) (tx : ℕ) where
  placed_one : (seq : ℕ) (values : List (Option TypedValue)) (V : List Version)
      → IsPermutation (rows_at place (started (tx, seq) values V)) (record { place = (place tx, seq); row = map value_or_null values } ∷ rows_at place V)
  unfolding started
  placed_one seq values V = inserted_map (row_at place) start_cmp (record { values = values; start = (tx, seq); end = None }) V

  pub starts_placed : (seq : ℕ) (rows : List Row) (V : List Version) → AllByRecursion (IsWhole columns) rows
      → IsPermutation (rows_at place (changed_all tx seq (map (λ row. Starts (stored_row columns row)) rows) V)) (placed_from (place tx) seq rows ++ rows_at place V)
  unfolding changed_all
  starts_placed seq [] V h = IsPermutation-refl (rows_at place V)
  starts_placed seq (r ∷ rs) V h =
      let W : List Version = changed (tx, seq) (Starts (stored_row columns r)) V in
      let new : PlacedRow = record { place = (place tx, seq); row = r } in
      let more : List PlacedRow = placed_from (place tx) (seq + 1) rs in
      let one : IsPermutation (rows_at place W) (new ∷ rows_at place V) =
      subst (λ (x : Row). IsPermutation (rows_at place W) (record { place = (place tx, seq); row = x } ∷ rows_at place V)) h.0 (placed_one seq (stored_row columns r) V) in
      let all : List PlacedRow = rows_at place (changed_all tx (seq + 1) (map (λ row. Starts (stored_row columns row)) rs) W) in
      IsPermutation-trans all (more ++ rows_at place W) (new ∷ more ++ rows_at place V) (starts_placed (seq + 1) rs W h.1)
      (IsPermutation-trans (more ++ rows_at place W) (more ++ new ∷ rows_at place V) (new ∷ more ++ rows_at place V)
      (IsPermutation-append_right more (rows_at place W) (new ∷ rows_at place V) one)
      (IsPermutation-middle more new (rows_at place V)))

-- ---- rows without their places

module _ (place : ℕ → ℕ) where
  alone_at : (vs : List Version) → rows_alone (rows_at place vs) ≡ map values_of vs
  alone_at [] = refl
  alone_at (v ∷ vs) = ap (λ (rows : List Row). values_of v ∷ rows) (alone_at vs)

  all_live : (vs : List Version) → AllByRecursion (λ v. v.end ≡ None) vs → live vs ≡ vs
  all_live [] h = refl
  all_live (v ∷ vs) h = rw (h.0, all_live vs h.1) refl

  live_at : (vs : List Version) → AllByRecursion (λ v. v.end ≡ None) vs → live_rows vs ≡ rows_alone (rows_at place vs)
  live_at vs h = ap (map values_of) (all_live vs h) ∙ sym (alone_at vs)

  -- what holds of rows about a table holds of them with their places
  about_at : (Q : Row → Type 0) (t : ℕ) (rows : List PlacedRow) → AllByRecursion Q (about (pos t) (rows_alone rows)) → AllByRecursion (λ (r : PlacedRow). Q r.row) (filter (is_about_table (pos t)) rows)
  about_at Q t [] h = tt
  about_at Q t (r ∷ rs) h = here (is_about (pos t) r.row) (about_at Q t rs) h
    where
      here : (b : Bool) → (AllByRecursion Q (about (pos t) (rows_alone rs)) → AllByRecursion (λ (x : PlacedRow). Q x.row) (filter (is_about_table (pos t)) rs))
          → AllByRecursion Q (if b then r.row ∷ about (pos t) (rows_alone rs) else about (pos t) (rows_alone rs))
          → AllByRecursion (λ (x : PlacedRow). Q x.row) (if b then r ∷ filter (is_about_table (pos t)) rs else filter (is_about_table (pos t)) rs)
      here true f k = (k.0, f k.1)
      here false f k = f k

  -- ---- places

  pub stands_so : (a b : EventId) → IsEarlier place a b → stands_before (place a.0, a.1) (place b.0, b.1) ≡ true
  stands_so a b h = before_so (place a.0, a.1) (place b.0, b.1) h

  past_rows : (now : EventId) (vs : List Version) → AllByRecursion (IsPast place now) vs → AllByRecursion (λ (r : PlacedRow). stands_before r.place (place now.0, now.1) ≡ true) (rows_at place vs)
  past_rows now vs h = all_map (IsPast place now) (λ (r : PlacedRow). stands_before r.place (place now.0, now.1) ≡ true) (row_at place) (λ v p. stands_so v.start now p.start) vs h

-- ---- a table that wasn't dropped

isnt_gone : (p : Part) (b : Bool) → not (is_base p && not b) ≡ false → b ≡ false
isnt_gone p false e = refl
isnt_gone Base true e = cc
isnt_gone History true e = cc
isnt_gone View true e = cc
isnt_gone System true e = cc

index_stands : (defs : Defs) (c : CreateIndex) (i : TableDef × IndexDef) → index_check defs c ≡ Ok i → i.0.gone ≡ false
unfolding index_check
index_stands defs c i e =
    let l : Led (or_refused NoSuchTable (find_part defs c.table)) (index_check_in c) i = led _ _ i e in
    let one = not_refused _ NameConflict _ i l.then_ in
    let two = not_refused _ LimitExceeded _ i one in
    let there : l.value.0.gone ≡ false = isnt_gone l.value.1 l.value.0.gone (was_passed _ ReadOnlyTable _ i two) in
    own l.value.0 (index_def l.value.0 c) i (not_refused _ NoSuchColumn _ i (not_refused _ ReadOnlyTable _ i two)) there
  where
    own : (old : TableDef) (new : IndexDef) (i : TableDef × IndexDef) → ◌≡◌ {A = Checked (TableDef × IndexDef)} (Ok (old, new)) (Ok i) → old.gone ≡ false → i.0.gone ≡ false
    own old new i e there = let is : (old, new) ≡ i = cc in ap (λ (j : TableDef × IndexDef). j.0.gone) (sym is) ∙ there

-- ---- what is known of the tables

pub record Known (T : Tables) : Type 0 where
  pub rows : HaveTheirRows T
  pub formed : AllFormed (defs_of T)
  pub kept : AllKeepRows T
  pub written : AllWritten (defs_of T)

pub known_kept : (tx seq : ℕ) (T : Tables) (stmt : Stmt) → IdsFrom 1 (defs_of T) → StatementWritten stmt → Known T → Known (effect T tx seq stmt).tables
known_kept tx seq T stmt ids w h = record {
  rows = statement_keeps_rows tx seq T stmt ids h.formed h.kept h.rows;
  formed = statement_formed tx seq T ids h.formed stmt;
  kept = statement_keeps_all_rows T tx seq ids h.kept stmt;
  written = statement_written tx seq T ids h.written stmt w;
}

abbrev AllThat : (TableDef → Type 0) → Defs → Type 0
AllThat Q ds = AllByRecursion (λ (d : TableDef). 2 < d.id → Q d) ds

of_users : (Q R S : TableDef → Type 0) (n : ℕ) (ds : Defs) → 3 ≤ n → IdsFrom n ds → AllThat Q ds → AllThat R ds → ((d : TableDef) → 3 ≤ d.id → Q d → R d → S d) → AllByRecursion S ds
of_users Q R S n [] le ids f w gives = tt
of_users Q R S n (d ∷ ds) le ids f w gives =
    let lt : 2 < d.id = omega (arith, ids.0, le) in
    (gives d (omega (arith, lt)) (f.0 lt) (w.0 lt), of_users Q R S (n + 1) ds (omega (arith, le)) ids.1 f.1 w.1 gives)

of_one : (id : ℕ) (Q : Table → Type 0) (a b : Table) (ts : Tables) → IdsFrom 1 (defs_of (a ∷ b ∷ ts)) → 2 < id → OfTable id Q (a ∷ b ∷ ts) → OfTable id Q ts
of_one id Q a b ts ids lt o = elim o [
  | inl p ↦ absurd (omega (arith, p.0, ids.0, lt))
  | inr q ↦ elim q [ inl p ↦ absurd (omega (arith, p.0, ids.1.0, lt)) | inr r ↦ r ]
]

among_them : (id : ℕ) (def : TableDef) (T : Tables) → OfTable id (λ t. t.def ≡ def) T → IsAmong def (defs_of T)
among_them id def [] o = absurd o
among_them id def (t ∷ ts) o = elim o [ inl p ↦ inl p.1 | inr q ↦ inr (among_them id def ts q) ]

module _ (place : ℕ → ℕ) (a b : Table) (ts : Tables) where
  ground : IdsFrom 1 (defs_of (a ∷ b ∷ ts)) → Known (a ∷ b ∷ ts) → Ground (catalog_of place (a ∷ b ∷ ts))
  ground ids h =
      let first = live_at place a.versions (h.kept.0 (ap (λ (d : TableDef). d.kind) h.formed.system.0)) in
      let second = live_at place b.versions (h.kept.1.0 (ap (λ (d : TableDef). d.kind) h.formed.system.1)) in
      record {
        ids = ids.1.1;
        formed = of_users Formed Formed Formed 3 (defs_of ts) (omega arith) ids.1.1 h.formed.each.1.1 h.formed.each.1.1 (λ d le f g. f);
        encodable = of_users Formed Written (λ d. is_encodable_def d ≡ true) 3 (defs_of ts) (omega arith) ids.1.1 h.formed.each.1.1 h.written.1.1 may_be;
        encoded = subst (λ (rows : List Row). EncodeEach rows (rows_alone (rows_at place b.versions)) (defs_of ts)) first
            (subst (λ (rows : List Row). EncodeEach (live_rows a.versions) rows (defs_of ts)) second h.rows);
      }

  same_defs : Known (a ∷ b ∷ ts) → defs_of (a ∷ b ∷ ts) ≡ all_defs (catalog_of place (a ∷ b ∷ ts))
  same_defs h = ap₂ (λ (x y : TableDef). x ∷ y ∷ defs_of ts) h.formed.system.0 h.formed.system.1

-- ---- the tables that row statements may change

on_standing : (stmt : RowStmt) (def : TableDef) (p : Part) → row_check stmt def p ≡ Ok tt → not (is_standing def p) ≡ false
unfolding insert_check update_check delete_check
on_standing (Insert table names rows) def p e = was_passed _ ReadOnlyTable _ tt (not_refused _ LimitExceeded _ tt (not_refused _ NameConflict _ tt e))
on_standing (Update table sets cond) def p e = was_passed _ ReadOnlyTable _ tt (not_refused _ NameConflict _ tt e)
on_standing (Delete table cond) def p e = was_passed _ ReadOnlyTable _ tt e

is_true : (b : Bool) → not b ≡ false → b ≡ true
is_true true e = refl
is_true false e = cc

-- ---- what holds of a catalog and of the users' tables

abbrev Holding : (ℕ → ℕ) → (Catalog → Tables → Type 0) → Tables → Type 0
Holding place Q T = Q (catalog_of place T) (users_of T)

-- ---- each statement

module _ (place : ℕ → ℕ) (Q : Catalog → Tables → Type 0) (tx seq : ℕ) (a b : Table) (ts : Tables) (keeps : UsersStep place (tx, seq) (catalog_of place (a ∷ b ∷ ts)) ts Q)
    (k : Kept place tx seq (a ∷ b ∷ ts)) (h : Known (a ∷ b ∷ ts)) (holds : Holding place Q (a ∷ b ∷ ts)) where
  abbrev P : Tables → Type 0
  P U = Holding place Q U

  abbrev T : Tables
  T = a ∷ b ∷ ts

  abbrev x : Catalog
  x = catalog_of place T

  ids : IdsFrom 1 (defs_of T)
  ids = k.sound.ids

  same : defs_of T ≡ all_defs x
  same = same_defs place a b ts h

  abbrev After : (List Version → List Version) → (List Version → List Version) → Tables → Tables
  After f g us = with_versions f a ∷ with_versions g b ∷ us

  -- tables that are as another statement leaves them
  stepped : (stmt : Stmt) → StatementWritten stmt → (f g : List Version → List Version) (us : Tables) → (effect T tx seq stmt).tables ≡ After f g us
      → (Around (place tx, seq) x (catalog_of place (After f g us)) → P (After f g us)) → P (effect T tx seq stmt).tables
  stepped stmt w f g us e step =
      let U : Tables = After f g us in
      let new : Known U = subst Known e (known_kept tx seq T stmt ids w h) in
      let rise : IdsFrom 1 (defs_of U) = subst (λ (V : Tables). IdsFrom 1 (defs_of V)) e (statement_sound tx seq T stmt k.sound).ids in
      subst P (sym e)
      (step (record {
        before = ground place a b ts ids h;
        after = ground place (with_versions f a) (with_versions g b) us rise new;
        earlier = record { tables = past_rows place (tx, seq) a.versions k.each.0.past; items = past_rows place (tx, seq) b.versions k.each.1.0.past };
      }))

  unchanged : (stmt : Stmt) → (effect T tx seq stmt).tables ≡ T → P (effect T tx seq stmt).tables
  unchanged stmt e = subst P (sym e) holds

  users_now : UsersAt place (tx, seq) x ts
  users_now = record { defs = refl; kept = k.each.1.1 }

  -- ---- CREATE TABLE

  created_case : (c : CreateTable) → StatementWritten (s.Create c) → (m : Checked TableDef) → create_check (defs_of T) c ≡ m → P (effect T tx seq (s.Create c)).tables
  unfolding effect
  created_case c w (Err r) e = unchanged (s.Create c) (ap (λ m. (table_effect T tx seq m).tables) e)
  created_case c w (Ok def) e =
      let new : Table = record { def = def; versions = [] } in
      let f = changed_all tx seq (table_start def) in
      let g = changed_all tx (seq + length (table_start def)) (column_starts (column_rows def)) in
      stepped (s.Create c) w f g (ts ++ new ∷ [])
      (ap (λ m. (table_effect T tx seq m).tables) e ∙ ap (λ (U : Tables). U ++ new ∷ []) (system_changed a b ts ids f g))
      (λ around. keeps.table_created (catalog_of place (After f g (ts ++ new ∷ []))) around users_now c def (subst (λ (ds : Defs). create_check ds c ≡ Ok def) same e)
      (record {
        tables = starts_placed place tables_columns tx seq (table_row def ∷ []) a.versions (table_row_whole def, tt);
        items = starts_placed place columns_columns tx (seq + 1) (column_rows def) b.versions (column_rows_whole def);
      })
      (defs_append ts new))

  -- ---- a definition in the place of another

  redefined_after : (def : TableDef) → 2 < def.id → (f g : List Version → List Version) → redefined def (After f g ts) ≡ After f g (redefined def ts)
  redefined_after def lt f g =
      rw (ne_eqb a.def.id def.id (λ e. absurd (omega (arith, e, ids.0, lt))), ne_eqb b.def.id def.id (λ e. absurd (omega (arith, e, ids.1.0, lt)))) refl

  -- ---- CREATE INDEX

  indexed_case : (c : CreateIndex) → StatementWritten (s.Index c) → (m : Checked (TableDef × IndexDef)) → index_check (defs_of T) c ≡ m → P (effect T tx seq (s.Index c)).tables
  unfolding effect
  indexed_case c w (Err r) e = unchanged (s.Index c) (ap (λ m. (index_effect T tx seq m).tables) e)
  indexed_case c w (Ok i) e =
      let lt : 2 < i.0.id = indexed_is_users (defs_of T) c i e in
      let def : TableDef = with_index i.0 i.1 in
      let rows : List Row = index_rows i.0.id (length i.0.indexes + 1) i.1 in
      let there : OfTable i.0.id (λ t. t.def ≡ i.0) ts = of_one i.0.id (λ t. t.def ≡ i.0) a b ts ids lt (has_indexed_table (λ n. n) tx T i ids (indexed (defs_of T) c i e)) in
      let f = changed_all tx seq [] in
      let g = changed_all tx (seq + 0) (column_starts rows) in
      stepped (s.Index c) w f g (redefined def ts)
      (ap (λ m. (index_effect T tx seq m).tables) e ∙ ap (redefined def) (system_changed a b ts ids f g) ∙ redefined_after def lt f g)
      (λ around. keeps.index_created (catalog_of place (After f g (redefined def ts))) around users_now c i (subst (λ (ds : Defs). index_check ds c ≡ Ok i) same e)
      (record { users = lt; among = among_them i.0.id i.0 ts there; there = index_stands (defs_of T) c i e })
      (record {
        tables = starts_placed place tables_columns tx seq [] a.versions tt;
        items = starts_placed place columns_columns tx (seq + 0) rows b.versions (index_rows_whole i.0 i.1);
      })
      (defs_redefined def ts))

  -- ---- ALTER TABLE and DROP TABLE

  standing : (name : List ℕ) (n : NamedPart) → alterations.Stands (defs_of T) name n → Stands x n.0
  standing name n st =
      let lt : 2 < n.0.id = found_is_users (defs_of T) name n st.by_name st.base in
      let found = (found_table 1 T name n ids st.by_name).there in
      let there : OfTable n.0.id (λ t. t.def ≡ n.0) T = of_weaker n.0.id (λ t. (t.def ≡ n.0) × (t.versions ≡ versions_of T n.0.id)) (λ t. t.def ≡ n.0) T (λ t k. k.0) found in
      record { users = lt; among = among_them n.0.id n.0 ts (of_one n.0.id (λ t. t.def ≡ n.0) a b ts ids lt there); there = st.there }

  abbrev change_of_table : ℕ → ℕ
  change_of_table id = next_change id (versions_of T tables_id) (versions_of T columns_id)

  some_change : (id : ℕ) → 1 ≤ change_of_table id
  unfolding next_change
  some_change id = omega arith

  next_change_is : (old : TableDef) → Stands x old → IsNext (change_of_table old.id) x old
  next_change_is old st =
      let first : List Row = live_rows a.versions in
      let second : List Row = live_rows b.versions in
      let first_is = live_at place a.versions (h.kept.0 (ap (λ (d : TableDef). d.kind) h.formed.system.0)) in
      let second_is = live_at place b.versions (h.kept.1.0 (ap (λ (d : TableDef). d.kind) h.formed.system.1)) in
      let is : change_of_table old.id ≡ next_change_in old.id first second = same_change tx seq a b ts ids h.formed h.kept h.rows old.id in
      let some : 1 ≤ old.id = (let lt = st.users in omega (arith, lt)) in
      let encoded = h.rows.one old st.among in
      record {
        above = some_change old.id;
        tables = about_at place (λ q. change_of 0 q <ℤ pos (change_of_table old.id)) old.id (rows_at place a.versions)
            (subst (λ (rows : List Row). AllByRecursion (λ q. change_of 0 q <ℤ pos (change_of_table old.id)) (about (pos old.id) rows)) first_is
            (subst (λ (n : ℕ). AllByRecursion (λ q. change_of 0 q <ℤ pos n) (about (pos old.id) first)) (sym is) (above_tables first second old some encoded)));
        items = about_at place (λ q. change_of 1 q <ℤ pos (change_of_table old.id)) old.id (rows_at place b.versions)
            (subst (λ (rows : List Row). AllByRecursion (λ q. change_of 1 q <ℤ pos (change_of_table old.id)) (about (pos old.id) rows)) second_is
            (subst (λ (n : ℕ). AllByRecursion (λ q. change_of 1 q <ℤ pos n) (about (pos old.id) second)) (sym is) (above_items first second old some encoded)));
      }

  -- the tables after a row of a changed column was entered
  module _ (w : WithColumn) (lt : 2 < w.0.id) (change : ℕ) where
    abbrev row_starts : List Version → List Version
    row_starts = changed_all tx (seq + 0) (Starts (stored_row columns_columns (changed_column_row change w.0 w.1)) ∷ [])

    abbrev no_start : List Version → List Version
    no_start = changed_all tx seq []

    abbrev WithRow : Tables
    WithRow = After no_start row_starts (redefined w.0 ts)

    with_row : (altered_effect T tx seq (Ok (altered_table change w))).tables ≡ WithRow
    with_row = ap (redefined w.0) (system_changed a b ts ids no_start row_starts) ∙ redefined_after w.0 lt no_start row_starts

    column_entered : ColumnEntered (place tx, seq) change w x (catalog_of place WithRow)
    column_entered = record {
      rows = record {
        tables = starts_placed place tables_columns tx seq [] a.versions tt;
        items = starts_placed place columns_columns tx (seq + 0) (changed_column_row change w.0 w.1 ∷ []) b.versions (changed_column_row_whole change w.0 w.1, tt);
      };
      defs = defs_redefined w.0 ts;
    }

  abbrev Alteration : Alter → Checked Altered
  Alteration y = alteration (defs_of T) (versions_of T tables_id) (versions_of T columns_id) y

  altered_to : (y : Alter) → StatementWritten (s.Alter y) → (w : WithColumn) → alter_check (defs_of T) y ≡ Ok w → Alteration y ≡ Ok (altered_table (change_of_table w.0.id) w)
      → P (effect T tx seq (s.Alter y)).tables
  unfolding effect
  altered_to (Add table c) written w e is =
      let p : Added (all_defs x) table c w = added (all_defs x) table c w (subst (λ (ds : Defs). alter_check ds (Add table c) ≡ Ok w) same e) in
      let st : Stands x p.found.0 = standing table p.found (subst (λ (ds : Defs). alterations.Stands ds table p.found) (sym same) p.stands) in
      let v : WithColumn = added_to p.found.0 c in
      let n : ℕ = change_of_table p.found.0.id in
      let now : Alteration (Add table c) ≡ Ok (altered_table n v) = is ∙ ap (λ (z : WithColumn). Ok (altered_table (change_of_table z.0.id) z)) p.is in
      stepped (s.Alter (Add table c)) written (no_start v st.users n) (row_starts v st.users n) (redefined v.0 ts)
      (ap (λ m. (altered_effect T tx seq m).tables) now ∙ with_row v st.users n)
      (λ around. keeps.column_added (catalog_of place (WithRow v st.users n)) around users_now table c w p st n (next_change_is p.found.0 st) (column_entered v st.users n))
  altered_to (DropColumn table name) written w e is =
      let p : ColumnDropped (all_defs x) table name w = column_dropped (all_defs x) table name w (subst (λ (ds : Defs). alter_check ds (DropColumn table name) ≡ Ok w) same e) in
      let st : Stands x p.found.0 = standing table p.found (subst (λ (ds : Defs). alterations.Stands ds table p.found) (sym same) p.stands) in
      let v : WithColumn = dropped_from p.found.0 p.column in
      let n : ℕ = change_of_table p.found.0.id in
      let now : Alteration (DropColumn table name) ≡ Ok (altered_table n v) = is ∙ ap (λ (z : WithColumn). Ok (altered_table (change_of_table z.0.id) z)) p.is in
      stepped (s.Alter (DropColumn table name)) written (no_start v st.users n) (row_starts v st.users n) (redefined v.0 ts)
      (ap (λ m. (altered_effect T tx seq m).tables) now ∙ with_row v st.users n)
      (λ around. keeps.column_dropped (catalog_of place (WithRow v st.users n)) around users_now table name w p st n (next_change_is p.found.0 st) (column_entered v st.users n))

  altered_case : (y : Alter) → StatementWritten (s.Alter y) → (m : Checked Altered) → Alteration y ≡ m → P (effect T tx seq (s.Alter y)).tables
  unfolding effect
  altered_case y written (Err r) e = unchanged (s.Alter y) (ap (λ m. (altered_effect T tx seq m).tables) e)
  altered_case y written (Ok m) e =
      by_alter (defs_of T) (versions_of T tables_id) (versions_of T columns_id) (λ z. Alteration y ≡ Ok z → P (effect T tx seq (s.Alter y)).tables) y m e
      (λ w passed. altered_to y written w passed) e

  abbrev Dropping : List ℕ → Checked Altered
  Dropping name = table_drop (defs_of T) (versions_of T tables_id) (versions_of T columns_id) name

  dropped_to : (name : List ℕ) (def : TableDef) → drop_check (defs_of T) name ≡ Ok def → Dropping name ≡ Ok (gone_table (change_of_table def.id) def) → P (effect T tx seq (s.Drop name)).tables
  unfolding effect dropped_table
  dropped_to name def e is =
      let p : TableDropped (all_defs x) name def = table_dropped (all_defs x) name def (subst (λ (ds : Defs). drop_check ds name ≡ Ok def) same e) in
      let st : Stands x p.found.0 = standing name p.found (subst (λ (ds : Defs). alterations.Stands ds name p.found) (sym same) p.stands) in
      let new : TableDef = dropped_table p.found.0 in
      let n : ℕ = change_of_table p.found.0.id in
      let now : Dropping name ≡ Ok (gone_table n new) = is ∙ ap (λ (d : TableDef). Ok (gone_table (change_of_table d.id) d)) p.is in
      let f = changed_all tx seq (Starts (stored_row tables_columns (changed_table_row n new)) ∷ []) in
      let g = changed_all tx (seq + 1) [] in
      stepped (s.Drop name) tt f g (redefined new ts)
      (ap (λ m. (altered_effect T tx seq m).tables) now ∙ ap (redefined new) (system_changed a b ts ids f g) ∙ redefined_after new st.users f g)
      (λ around. keeps.table_dropped (catalog_of place (After f g (redefined new ts))) around users_now name def p st n (next_change_is p.found.0 st)
      (record {
        tables = starts_placed place tables_columns tx seq (changed_table_row n new ∷ []) a.versions (changed_table_row_whole n new, tt);
        items = starts_placed place columns_columns tx (seq + 1) [] b.versions tt;
      })
      (defs_redefined new ts))

  dropped_case : (name : List ℕ) (m : Checked Altered) → Dropping name ≡ m → P (effect T tx seq (s.Drop name)).tables
  unfolding effect
  dropped_case name (Err r) e = unchanged (s.Drop name) (ap (λ m. (altered_effect T tx seq m).tables) e)
  dropped_case name (Ok m) e =
      by_drop (defs_of T) (versions_of T tables_id) (versions_of T columns_id) (λ z. Dropping name ≡ Ok z → P (effect T tx seq (s.Drop name)).tables) name m e
      (λ def passed. dropped_to name def passed) e

  -- ---- all others

  users_versions : (id : ℕ) → 2 < id → versions_of T id ≡ versions_of ts id
  users_versions id lt = rw (ne_eqb a.def.id id (λ e. absurd (omega (arith, e, ids.0, lt))), ne_eqb b.def.id id (λ e. absurd (omega (arith, e, ids.1.0, lt)))) refl

  -- the table that a row statement changes
  row_stands : (stmt : RowStmt) (def : TableDef) → row_statement_check (defs_of T) stmt ≡ Ok def → Stands x def
  row_stands stmt def e =
      let p : Passed (defs_of T) stmt def = passed (defs_of T) stmt def e in
      let there : not (is_standing p.found.0 p.found.1) ≡ false = on_standing stmt p.found.0 p.found.1 p.check in
      subst (Stands x) p.is
      (standing (table_of stmt) p.found (record { by_name = p.by_name; standing = is_true _ there; base = base_alone p.found.0 p.found.1 there; there = isnt_gone p.found.1 p.found.0.gone there }))

  changed_case : (stmt : RowStmt) (def : TableDef) → row_statement_check (defs_of T) stmt ≡ Ok def → (m : Checked Changes) → row_changes def (versions_of T def.id) stmt ≡ m
      → P (done T tx seq def.id m).tables
  changed_case stmt def e (Err r) is = holds
  changed_case stmt def e (Ok c) is =
      let lt : 2 < def.id = users_table (defs_of T) stmt def e in
      let f : List Version → List Version = changed_all tx seq c.0 in
      subst P (sym (users_changed a b ts ids def.id f lt))
      (subst (λ (ds : Defs). Q (record { rows = x.rows; defs = ds }) (changed_table def.id f ts)) (sym (definitions.same_defs def.id f ts))
      (keeps.rows_changed (ground place a b ts ids h)
      (record { tables = past_rows place (tx, seq) a.versions k.each.0.past; items = past_rows place (tx, seq) b.versions k.each.1.0.past })
      users_now stmt def (subst (λ (ds : Defs). row_statement_check ds stmt ≡ Ok def) same e) (row_stands stmt def e) c
      (subst (λ (vs : List Version). row_changes def vs stmt ≡ Ok c) (users_versions def.id lt) is)))

  rows_case : (stmt : RowStmt) (m : Checked TableDef) → row_statement_check (defs_of T) stmt ≡ m → P (row_effect T tx seq stmt m).tables
  rows_case stmt (Ok def) e = changed_case stmt def e (row_changes def (versions_of T def.id) stmt) refl
  rows_case stmt (Err r) e = holds

  shown_case : (m : Checked (List Row)) → P (shown T seq m).tables
  shown_case (Ok rows) = holds
  shown_case (Err e) = holds

  query_case : (q : Select) (m : Checked NamedPart) → P (query_effect T seq q m).tables
  query_case q (Ok n) = shown_case (query_rows q n (versions_of T n.0.id))
  query_case q (Err e) = holds

  pub each_case : (stmt : Stmt) → StatementWritten stmt → P (effect T tx seq stmt).tables
  unfolding effect
  each_case (s.Create c) w = created_case c w (create_check (defs_of T) c) refl
  each_case (s.Index c) w = indexed_case c w (index_check (defs_of T) c) refl
  each_case (s.Alter y) w = altered_case y w (Alteration y) refl
  each_case (s.Drop name) w = dropped_case name (Dropping name) refl
  each_case (s.Change stmt) w = rows_case stmt (row_statement_check (defs_of T) stmt) refl
  each_case (s.Select q) w = query_case q (query_check (defs_of T) q)
  each_case s.Begin w = holds
  each_case s.Commit w = holds
  each_case (s.Save name) w = holds
  each_case (s.Rollback name) w = holds
  each_case s.Digest w = holds
  each_case s.Image w = holds

-- ---- legal journals

module _ (place : ℕ → ℕ) (Q : Catalog → Tables → Type 0) (keeps : UsersKeep place Q) where
  abbrev pub Holds : Tables → Type 0
  Holds T = Known T × Holding place Q T

  statement_keeps : (tx seq : ℕ) (T : Tables) (stmt : Stmt) → Kept place tx seq T → Described T → StatementWritten stmt → Holds T → Holds (effect T tx seq stmt).tables
  statement_keeps tx seq [] stmt k d w h = absurd h.0.rows
  statement_keeps tx seq (a ∷ []) stmt k d w h = absurd h.0.rows
  statement_keeps tx seq (a ∷ b ∷ ts) stmt k d w h = (known_kept tx seq (a ∷ b ∷ ts) stmt k.sound.ids w h.0, each_case place Q tx seq a b ts (users_step place Q keeps (tx, seq) (catalog_of place (a ∷ b ∷ ts)) ts h.1) k h.0 h.1 stmt w)

  first_holds : Q nothing [] → Holds first_tables
  unfolding first_tables
  first_holds q = (record { rows = first_has_rows; formed = first_formed; kept = ((λ k. tt), ((λ k. tt), tt)); written = first_written }, q)

-- what each of the statements keeps holds of the rows and the users' tables of a legal journal
pub legal_users : (items : List JournalItem) (Q : Catalog → Tables → Type 0) → UsersKeep (place_in items) Q → Q nothing [] → (reads : Reading) → ReadsWritten reads → IsLegal reads items
    → Q (catalog_of (place_in items) (serial reads items)) (users_of (serial reads items))
legal_users items Q keeps first reads written legal =
    (legal_keeps_in_place items StatementWritten (Holds (place_in items) Q keeps) (statement_keeps (place_in items) Q keeps) reads written legal (first_holds (place_in items) Q keeps first)).1

-- and so of the rows alone
pub legal_catalog : (P : Catalog → Type 0) → StepsKeep P → P nothing → (reads : Reading) → ReadsWritten reads → (items : List JournalItem) → IsLegal reads items
    → P (catalog_of (place_in items) (serial reads items))
legal_catalog P keeps first reads written items legal = legal_users items (λ x us. P x) (of_catalogs (place_in items) P keeps) first reads written legal

-- each definition keeps to the rules of definitions
abbrev AllEncodable : Catalog → Type 0
AllEncodable x = (def : TableDef) → IsAmong def x.defs → is_encodable_def def ≡ true

encodable_now : (x : Catalog) → Ground x → AllEncodable x
encodable_now x g def among = of_among (λ d. is_encodable_def d ≡ true) x.defs g.encodable def among

encodable_kept : StepsKeep AllEncodable
encodable_kept = record {
  table_created = λ p x y around c def passed entered defs h. encodable_now y around.after;
  index_created = λ p x y around c i passed st entered defs h. encodable_now y around.after;
  column_added = λ p x y around table c w a st change next entered h. encodable_now y around.after;
  column_dropped = λ p x y around table name w d st change next entered h. encodable_now y around.after;
  table_dropped = λ p x y around name def d st change next entered defs h. encodable_now y around.after;
}

pub legal_encodable : (reads : Reading) → ReadsWritten reads → (items : List JournalItem) → IsLegal reads items → AllEncodable (catalog_of (place_in items) (serial reads items))
legal_encodable reads written items legal = legal_catalog AllEncodable encodable_kept (λ def none. absurd none) reads written items legal

pub legal_known : (reads : Reading) → ReadsWritten reads → (items : List JournalItem) → IsLegal reads items → Known (serial reads items)
legal_known reads written items legal =
    let keeps = of_catalogs (place_in items) AllEncodable encodable_kept in
    (legal_keeps_in_place items StatementWritten (Holds (place_in items) (λ x us. AllEncodable x) keeps) (statement_keeps (place_in items) (λ x us. AllEncodable x) keeps) reads written legal
    (first_holds (place_in items) (λ x us. AllEncodable x) keeps (λ def none. absurd none))).0
