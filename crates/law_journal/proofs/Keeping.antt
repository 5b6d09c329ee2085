-- Each statement keeps what is kept, and the system tables stay about what there is.
use Rattle.std.proofs.Common.{◌≡◌, ◌≤◌, ◌<◌, ℕ, ◌+◌, ◌*◌, inl, inr, refl, sym, ap, subst, ◌∙◌, Bool, true, false, cond, nat_lt, List, [], ◌∷◌, ◌++◌, length, Ok, Err, arith, length-append}
use Rattle.std.proofs.lemmas.List.{length-map}
use Rattle.std.proofs.lemmas.Bool.{eqb-true, le-ltb}
use Rattle.std.specs.Prelude.{◌==◌, if◌then◌else◌}
use Rattle.std.specs.List.{AllByRecursion}
use Rattle.sql_value.specs.declared.column.ColumnDef.{ColumnDef}
use Rattle.sql_value.specs.Stored.{is_in_range}
use Rattle.sql_types.specs.declared.statement.Stmt.{Stmt}
use Rattle.sql_types.specs.declared.statement.Stmt.TheVariants as s
use Rattle.sql_types.specs.declared.statement.RowStmt.{RowStmt}
use Rattle.sql_types.specs.declared.statement.CreateTable.{CreateTable}
use Rattle.sql_types.specs.declared.statement.CreateIndex.{CreateIndex}
use Rattle.sql_types.specs.declared.statement.Select.{Select}
use Rattle.sql_types.specs.declared.table.TableDef.{TableDef}
use Rattle.sql_types.specs.declared.table.IndexDef.{IndexDef}
use Rattle.sql_types.specs.declared.version.Table.{Table}
use Rattle.sql_types.specs.declared.version.Version.{Version}
use Rattle.spec_model.specs.Refusals.{Checked}
use Rattle.spec_model.specs.Rows.{Row, EventId}
use Rattle.spec_model.specs.Keys.{version_key}
use Rattle.spec_model.specs.Changes.{Change, Changes, changed_all, row_changes}
use Rattle.spec_model.specs.Catalog.{Defs, NamedPart, Tables, defs_of, versions_of, changed_table}
use Rattle.spec_model.specs.Checks.{row_statement_check}
use Rattle.spec_model.specs.Query.{query_check}
use Rattle.spec_model.specs.SystemTables.{tables_id, columns_id, tables_columns, columns_columns, table_row, column_row, column_rows, index_row, index_rows, first_tables}
use Rattle.spec_model.specs.Create.{create_check, index_check, with_index}
use Rattle.spec_model.specs.Alter.{Altered, alteration, table_drop}
use Rattle.spec_model.specs.Effect.{Effect, effect, query_rows, table_start, column_starts, index_starts, with_def, redefined}
use Rattle.spec_model.specs.ChangeSets.{TableChange, in_table, changed_from, Definition, as_before, new, in_place, altered, defined, ChangeSet, row_change_set, row_stmt_change_set, select_change_set, query_change_set, create_table_change_set, create_index_change_set, altered_change_set, change_set, carried_out}
use Rattle.spec_model.specs.Agreement.{IdsFrom}
use Rattle.spec_model.specs.Runs.{Sound}
use Rattle.law_frame.specs.Alters.{Altering}
use Rattle.law_frame.proofs.Alterations.{alteration_alters, drop_alters}
use Rattle.law_frame.proofs.Alls.{all_weaker, all_both, all_append, all_map}
use Rattle.law_frame.proofs.BaseTables.{users_table}
use Rattle.law_frame.proofs.Definitions.{same_defs, changes_keep_defs}
use Rattle.law_frame.proofs.ChangeSets.{carries_change_set_out, in_one_table, in_turn}
use Rattle.law_frame.proofs.SoundStatements.{statement_sound, first_sound}
use Rattle.law_journal.specs.Fine.{OfTable}
use Rattle.law_journal.specs.Fits.{FitsSoFar}
use Rattle.law_journal.specs.Kept.{count_all, AllApart, KeptTable, Kept}
use Rattle.law_journal.specs.Described.{items_below, IsChange, IsTableKey, IsColumnKey, InRange, Described}
use Rattle.law_journal.proofs.Altered.{of_def, has_old, only_old, StaysIn, all_stay, apart_stays, fit_stays}
use Rattle.law_journal.proofs.Created.{Created, created, Indexed, indexed}
use Rattle.law_journal.proofs.DefLists.{defs_append, all_defs, no_changes, count_new, new_items, table_key_stays, column_key_stays, redef, defs_redefined, count_redefined, IsOnly, ListedOnce, is_listed_once, table_key_kept, column_key_kept, items_now}
use Rattle.law_journal.proofs.Lift.{of_weaker, of_changed, of_other, of_front}
use Rattle.law_journal.proofs.Entering.{Enters}
use Rattle.law_journal.proofs.NumberKeys.{table_key, index_key}
use Rattle.law_journal.proofs.Statements.{TablesAbout, ColumnsAbout, described_by, own_column_key, has_indexed_table, few_columns, after_first, altering_enters, dropping_enters, change_set_fine}
use Rattle.law_journal.proofs.SystemRows.{IsSmall}
use Rattle.law_journal.proofs.SystemKeys.{keys_after, rows_known}
use Rattle.law_journal.proofs.Tables.{kept_all}

-- ---- definitions

-- the table with the id of this definition has its columns
abbrev HasColumns : TableDef → Table → Type 0
HasColumns def t = t.def.id ≡ def.id → t.def.columns ≡ def.columns

abbrev Suits : Definition → Tables → Type 0
Suits as_before U = Unit {0}
Suits (new def) U = Unit {0}
Suits (in_place def) U = AllByRecursion (HasColumns def) U
Suits (altered def) U = AllByRecursion (StaysIn def) U

module _ (place : ℕ → ℕ) (tx n : ℕ) where
  same_numbers : (U V : Tables) → ((a : EventId) → count_all a V ≡ count_all a U) → Kept place tx n U → Sound tx n V → AllByRecursion (KeptTable place (tx, n)) V → Kept place tx n V
  same_numbers U V e k sound each = record { sound = sound; own = λ m. e (tx, m) ∙ k.own m; others = λ id. ((k.others id).0, (λ m. e (id, m) ∙ (k.others id).1 m)); each = each }

  redefined_kept : (def : TableDef) (b : Bool) (t : Table) → (t.def.id == def.id) ≡ b → HasColumns def t × KeptTable place (tx, n) t → KeptTable place (tx, n) (if b then with_def def t else t)
  redefined_kept def true t e h =
      let c : t.def.columns ≡ def.columns = h.0 (eqb-true t.def.id def.id e) in
      record {
        past = h.1.past;
        apart = subst (λ (cs : List ColumnDef). AllApart place cs t.versions) c h.1.apart;
        fit = subst (λ (cs : List ColumnDef). AllByRecursion (λ v. FitsSoFar cs v.values) t.versions) c h.1.fit;
      }
  redefined_kept def false t e h = h.1

  altered_kept : (def : TableDef) (b : Bool) (t : Table) → (t.def.id == def.id) ≡ b → StaysIn def t × KeptTable place (tx, n) t → KeptTable place (tx, n) (if b then with_def def t else t)
  altered_kept def true t e h =
      let s = h.0 (eqb-true t.def.id def.id e) in
      record {
        past = h.1.past;
        apart = apart_stays place t.def.columns def.columns s.1 t.versions h.1.apart;
        fit = fit_stays t.def.columns def.columns s.0 t.versions h.1.fit;
      }
  altered_kept def false t e h = h.1

  defined_kept : (d : Definition) (U : Tables) → Suits d U → Kept place tx n U → Sound tx n (defined d U) → Kept place tx n (defined d U)
  defined_kept as_before U h k sound = k
  defined_kept (new def) U h k sound =
      same_numbers U (defined (new def) U) (λ a. count_new a def U) k sound
      (all_append (KeptTable place (tx, n)) U (record { def = def; versions = [] } ∷ []) k.each (record { past = tt; apart = tt; fit = tt }, tt))
  defined_kept (in_place def) U h k sound =
      same_numbers U (redefined def U) (λ a. count_redefined a def U) k sound
      (all_map (λ t. HasColumns def t × KeptTable place (tx, n) t) (KeptTable place (tx, n)) (λ t. if t.def.id == def.id then with_def def t else t) (λ t. redefined_kept def (t.def.id == def.id) t refl) U
      (all_both (HasColumns def) (KeptTable place (tx, n)) U h k.each))
  defined_kept (altered def) U h k sound =
      same_numbers U (redefined def U) (λ a. count_redefined a def U) k sound
      (all_map (λ t. StaysIn def t × KeptTable place (tx, n) t) (KeptTable place (tx, n)) (λ t. if t.def.id == def.id then with_def def t else t) (λ t. altered_kept def (t.def.id == def.id) t refl) U
      (all_both (StaysIn def) (KeptTable place (tx, n)) U h k.each))

-- ---- which definitions suit

rows_suit : (U : Tables) (m : Checked (List Row)) → Suits (select_change_set m).definition U
rows_suit U (Ok rows) = tt
rows_suit U (Err e) = tt

query_suits : (T U : Tables) (q : Select) (m : Checked NamedPart) → Suits (query_change_set T q m).definition U
query_suits T U q (Ok n) = rows_suit U (query_rows q n (versions_of T n.0.id))
query_suits T U q (Err e) = tt

row_suits : (id : ℕ) (U : Tables) (m : Checked Changes) → Suits (row_change_set id m).definition U
row_suits id U (Ok c) = tt
row_suits id U (Err e) = tt

change_suits : (T U : Tables) (stmt : RowStmt) (m : Checked TableDef) → Suits (row_stmt_change_set T stmt m).definition U
change_suits T U stmt (Ok def) = row_suits def.id U (row_changes def (versions_of T def.id) stmt)
change_suits T U stmt (Err e) = tt

table_suits : (U : Tables) (m : Checked TableDef) → Suits (create_table_change_set m).definition U
table_suits U (Ok def) = tt
table_suits U (Err e) = tt

only_columns : (x : TableDef × IndexDef) (U : Tables) → AllByRecursion (λ t. IsOnly x.0 t.def) U → AllByRecursion (HasColumns (with_index x.0 x.1)) U
only_columns x U h = all_weaker (λ t. IsOnly x.0 t.def) (HasColumns (with_index x.0 x.1)) (λ t o e. ap (λ (d : TableDef). d.columns) (o e)) U h

module _ (place : ℕ → ℕ) (tx : ℕ) where
  only_this : (T U : Tables) (x : TableDef × IndexDef) → defs_of U ≡ defs_of T → IdsFrom 1 (defs_of T) → Indexed (defs_of T) x → AllByRecursion (λ t. IsOnly x.0 t.def) U
  only_this T U x e ids i =
      all_defs (IsOnly x.0) U (subst (λ (ds : Defs). AllByRecursion (IsOnly x.0) ds) (sym e) (is_listed_once 1 x.0 T ids (has_indexed_table place tx T x ids i)).only)

  index_suits : (T U : Tables) (c : CreateIndex) (m : Checked (TableDef × IndexDef)) → defs_of U ≡ defs_of T → IdsFrom 1 (defs_of T) → index_check (defs_of T) c ≡ m → Suits (create_index_change_set m).definition U
  index_suits T U c (Err r) e ids is = tt
  index_suits T U c (Ok x) e ids is = only_columns x U (only_this T U x e ids (indexed (defs_of T) c x is))

  altered_suits : (T U : Tables) (m : Checked Altered) → defs_of U ≡ defs_of T → IdsFrom 1 (defs_of T) → ((a : Altered) → m ≡ Ok a → Altering (defs_of T) a.def) → Suits (altered_change_set m).definition U
  altered_suits T U (Err r) e ids h = tt
  altered_suits T U (Ok a) e ids h = all_stay T U a.def e ids (h a refl)

  suits : (T U : Tables) (stmt : Stmt) → defs_of U ≡ defs_of T → IdsFrom 1 (defs_of T) → Suits (change_set T stmt).definition U
  unfolding change_set
  suits T U (s.Create c) e ids = table_suits U (create_check (defs_of T) c)
  suits T U (s.Index c) e ids = index_suits T U c (index_check (defs_of T) c) e ids refl
  suits T U (s.Alter y) e ids =
      altered_suits T U (alteration (defs_of T) (versions_of T tables_id) (versions_of T columns_id) y) e ids
      (alteration_alters (defs_of T) (versions_of T tables_id) (versions_of T columns_id) y)
  suits T U (s.Drop name) e ids =
      altered_suits T U (table_drop (defs_of T) (versions_of T tables_id) (versions_of T columns_id) name) e ids
      (drop_alters (defs_of T) (versions_of T tables_id) (versions_of T columns_id) name)
  suits T U (s.Change stmt) e ids = change_suits T U stmt (row_statement_check (defs_of T) stmt)
  suits T U (s.Select q) e ids = query_suits T U q (query_check (defs_of T) q)
  suits T U s.Begin e ids = tt
  suits T U s.Commit e ids = tt
  suits T U (s.Save name) e ids = tt
  suits T U (s.Rollback name) e ids = tt
  suits T U s.Digest e ids = tt
  suits T U s.Image e ids = tt

  pub statement_kept : (seq : ℕ) (T : Tables) (stmt : Stmt) → Kept place tx seq T → Described T → Kept place tx (effect T tx seq stmt).seq (effect T tx seq stmt).tables
  statement_kept seq T stmt k d =
      let p : ChangeSet = change_set T stmt in
      let U : Tables = changed_from tx seq p.changes T in
      let kU : Kept place tx (seq + length p.changes) U = kept_all place tx seq p.changes T k (change_set_fine place tx seq T stmt k d) in
      let sound : Sound tx (carried_out T tx seq p).seq (carried_out T tx seq p).tables = subst (λ (e : Effect). Sound tx e.seq e.tables) (carries_change_set_out T tx seq stmt) (statement_sound tx seq T stmt k.sound) in
      subst (λ (e : Effect). Kept place tx e.seq e.tables) (sym (carries_change_set_out T tx seq stmt))
      (defined_kept place tx (seq + length p.changes) p.definition U (suits T U stmt (changes_keep_defs tx seq p.changes T) k.sound.ids) kU sound)

  -- ---- the system tables

  described_changed : (id : ℕ) (f : List Version → List Version) (T : Tables) → 2 < id → Described T → Described (changed_table id f T)
  described_changed id f T lt d = described_by (defs_of T) (changed_table id f T) (same_defs id f T) (record {
    of_tables = of_other tables_id id (TablesAbout (defs_of T)) f T (λ e. absurd (omega (arith, lt, e))) d.of_tables;
    of_columns = of_other columns_id id (ColumnsAbout (defs_of T)) f T (λ e. absurd (omega (arith, lt, e))) d.of_columns;
    few = d.few;
    types = d.types;
    count = d.count;
  })

  rows_described : (seq id : ℕ) (T : Tables) (m : Checked Changes) → 2 < id → Described T → Described (carried_out T tx seq (row_change_set id m)).tables
  rows_described seq id T (Ok c) lt d = subst Described (sym (in_one_table tx seq id c.0 T)) (described_changed id (changed_all tx seq c.0) T lt d)
  rows_described seq id T (Err e) lt d = d

  change_described : (seq : ℕ) (T : Tables) (stmt : RowStmt) (m : Checked TableDef) → row_statement_check (defs_of T) stmt ≡ m → Described T → Described (carried_out T tx seq (row_stmt_change_set T stmt m)).tables
  change_described seq T stmt (Ok def) e d = rows_described seq def.id T (row_changes def (versions_of T def.id) stmt) (users_table (defs_of T) stmt def e) d
  change_described seq T stmt (Err r) e d = d

  shown_described : (seq : ℕ) (T : Tables) (m : Checked (List Row)) → Described T → Described (carried_out T tx seq (select_change_set m)).tables
  shown_described seq T (Ok rows) d = d
  shown_described seq T (Err e) d = d

  query_described : (seq : ℕ) (T : Tables) (q : Select) (m : Checked NamedPart) → Described T → Described (carried_out T tx seq (query_change_set T q m)).tables
  query_described seq T q (Ok n) d = shown_described seq T (query_rows q n (versions_of T n.0.id)) d
  query_described seq T q (Err e) d = d

  -- ---- CREATE TABLE

  new_described : (f g : List Version → List Version) (T : Tables) (def : TableDef) → Created (defs_of T) def → Described T
      → ((t : Table) → TablesAbout (defs_of T) t → AllByRecursion (λ v. IsTableKey (defs_of T ++ def ∷ []) (version_key tables_columns v)) (f t.versions))
      → ((t : Table) → ColumnsAbout (defs_of T) t → AllByRecursion (λ v. IsColumnKey (defs_of T ++ def ∷ []) (version_key columns_columns v)) (g t.versions))
      → Described (changed_table columns_id g (changed_table tables_id f T) ++ record { def = def; versions = [] } ∷ [])
  new_described f g T def c d hf hg =
      let ds : Defs = defs_of T ++ def ∷ [] in
      let U : Tables = changed_table tables_id f T in
      let W : Tables = changed_table columns_id g U in
      let t : Table = record { def = def; versions = [] } in
      described_by ds (W ++ t ∷ []) (defs_append W t ∙ ap (λ (xs : Defs). xs ++ def ∷ []) (same_defs columns_id g U ∙ same_defs tables_id f T)) (record {
        of_tables = of_front tables_id (TablesAbout ds) W (t ∷ []) (of_other tables_id columns_id (TablesAbout ds) g U (λ e. cc) (of_changed tables_id (TablesAbout (defs_of T)) (TablesAbout ds) f T (λ u h. (h.0, hf u h)) d.of_tables));
        of_columns = of_front columns_id (ColumnsAbout ds) W (t ∷ []) (of_changed columns_id (ColumnsAbout (defs_of T)) (ColumnsAbout ds) g U (λ u h. (h.0, hg u h)) (of_other columns_id tables_id (ColumnsAbout (defs_of T)) f T (λ e. cc) d.of_columns));
        few = all_append (λ (x : TableDef). length x.columns ≤ 64) (defs_of T) (def ∷ []) d.few (c.count, tt);
        types = all_append InRange (defs_of T) (def ∷ []) d.types (all_weaker IsSmall (λ x. is_in_range x.ty ≡ true) (λ x s. s.ty) def.columns c.columns, tt);
        count = omega (arith, c.room, length-append (defs_of T) (def ∷ []));
      })

  known_columns : (seq : ℕ) (T : Tables) (def : TableDef) → IdsFrom 1 (defs_of T) → Created (defs_of T) def → (t : Table) → ColumnsAbout (defs_of T) t
      → AllByRecursion (λ v. IsColumnKey (defs_of T ++ def ∷ []) (version_key columns_columns v)) (changed_all tx seq (column_starts (column_rows def)) t.versions)
  unfolding column_rows
  known_columns seq T def ids c t h =
      let ds : Defs = defs_of T ++ def ∷ [] in
      let items : items_below ds def.id ≡ 1000 * (length def.indexes + 1) = new_items 1 def (defs_of T) ids (omega (arith, c.id)) in
      keys_after columns_columns (IsColumnKey ds) tx seq (column_rows def) t.versions
      (rows_known (defs_of T) def.id (column_row def.id) 0 (own_column_key def.id) ds 1 def.columns (omega (arith, items, c.count)))
      (all_weaker (λ v. IsColumnKey (defs_of T) (version_key columns_columns v)) (λ v. IsColumnKey ds (version_key columns_columns v)) (λ v k. column_key_stays def (defs_of T) (version_key columns_columns v) ids (omega (arith, c.id)) k) t.versions h.1)

  known_table : (seq : ℕ) (T : Tables) (def : TableDef) → Created (defs_of T) def → (t : Table) → TablesAbout (defs_of T) t
      → AllByRecursion (λ v. IsTableKey (defs_of T ++ def ∷ []) (version_key tables_columns v)) (changed_all tx seq (table_start def) t.versions)
  known_table seq T def c t h =
      let ds : Defs = defs_of T ++ def ∷ [] in
      keys_after tables_columns (IsTableKey ds) tx seq (table_row def ∷ []) t.versions
      ((def.id, 0, omega (arith, c.id, length-append (defs_of T) (def ∷ [])), no_changes def.id ds, table_key def), tt)
      (all_weaker (λ v. IsTableKey (defs_of T) (version_key tables_columns v)) (λ v. IsTableKey ds (version_key tables_columns v)) (λ v k. table_key_stays def (defs_of T) (version_key tables_columns v) (omega (arith, c.id)) k) t.versions h.1)

  table_described : (seq : ℕ) (T : Tables) (c : CreateTable) (m : Checked TableDef) → IdsFrom 1 (defs_of T) → create_check (defs_of T) c ≡ m → Described T → Described (carried_out T tx seq (create_table_change_set m)).tables
  table_described seq T c (Err r) ids e d = d
  table_described seq T c (Ok def) ids e d =
      let f : Created (defs_of T) def = created (defs_of T) c def e in
      let cs : List TableChange = in_table tables_id (table_start def) in
      let next : ℕ = seq + length cs in
      let whole : changed_from tx seq (cs ++ in_table columns_id (column_starts (column_rows def))) T ≡ changed_table columns_id (changed_all tx next (column_starts (column_rows def))) (changed_table tables_id (changed_all tx seq (table_start def)) T) =
      in_turn tx seq cs (in_table columns_id (column_starts (column_rows def))) T ∙ in_one_table tx next columns_id (column_starts (column_rows def)) (changed_from tx seq cs T)
      ∙ ap (changed_table columns_id (changed_all tx next (column_starts (column_rows def)))) (after_first place tx seq T def) in
      subst (λ (U : Tables). Described (U ++ record { def = def; versions = [] } ∷ [])) (sym whole)
      (new_described (changed_all tx seq (table_start def)) (changed_all tx next (column_starts (column_rows def))) T def f d (known_table seq T def f) (known_columns next T def ids f))

  -- ---- CREATE INDEX

  of_redefined : (id : ℕ) (P Q : Table → Type 0) (def : TableDef) (T : Tables) → AllByRecursion (HasColumns def) T → ((t : Table) → P t → Q t) → ((t : Table) → t.def.columns ≡ def.columns → P t → Q (with_def def t)) → OfTable id P T → OfTable id Q (redefined def T)
  of_redefined id P Q def [] a f g o = o
  of_redefined id P Q def (t ∷ ts) a f g o = elim o [
    | inl p ↦ inl (here (t.def.id == def.id) refl p)
    | inr q ↦ inr (of_redefined id P Q def ts a.1 f g q)
  ]
    where
      here : (b : Bool) → (t.def.id == def.id) ≡ b → (t.def.id ≡ id) × P t → (let u : Table = if b then with_def def t else t in (u.def.id ≡ id) × Q u)
      here true e p = (sym (eqb-true t.def.id def.id e) ∙ p.0, g t (a.0 (eqb-true t.def.id def.id e)) p.1)
      here false e p = (p.0, f t p.1)

  -- what holds of all definitions and of that which takes a place among them
  all_redefined : (P : TableDef → Type 0) (def : TableDef) (ds : Defs) → P def → AllByRecursion P ds → AllByRecursion P (redef def ds)
  all_redefined P def ds own h = all_map P P (λ (d : TableDef). if d.id == def.id then def else d) (λ d k. here (d.id == def.id) d k) ds h
    where
      here : (b : Bool) (d : TableDef) → P d → P (if b then def else d)
      here true d k = own
      here false d k = k

  abbrev IsFew : TableDef → Type 0
  IsFew def = length def.columns ≤ 64

  known_parts : (seq : ℕ) (T : Tables) (x : TableDef × IndexDef) → IdsFrom 1 (defs_of T) → Indexed (defs_of T) x → (t : Table) → ColumnsAbout (defs_of T) t
      → AllByRecursion (λ v. IsColumnKey (redef (with_index x.0 x.1) (defs_of T)) (version_key columns_columns v)) (changed_all tx seq (index_starts x.0 x.1) t.versions)
  unfolding index_rows
  known_parts seq T x ids i t h =
      let def : TableDef = with_index x.0 x.1 in
      let ds : Defs = redef def (defs_of T) in
      let g : ℕ = length x.0.indexes + 1 in
      let there = has_indexed_table place tx T x ids i in
      let st : ListedOnce 1 x.0 T = is_listed_once 1 x.0 T ids there in
      let one_more : length def.indexes ≡ length x.0.indexes + 1 = length-append x.0.indexes (x.1 ∷ []) in
      let now : items_below ds x.0.id ≡ 1000 * (length def.indexes + 1) = items_now 1 x.0 def T refl ids there in
      keys_after columns_columns (IsColumnKey ds) tx seq (index_rows x.0.id g x.1) t.versions
      (rows_known (defs_of T) x.0.id (index_row x.0.id g x.1.name) (1000 * g) (index_key x.0.id g x.1.name) ds 1 x.1.ordinals (omega (arith, now, one_more, i.count)))
      (all_weaker (λ v. IsColumnKey (defs_of T) (version_key columns_columns v)) (λ v. IsColumnKey ds (version_key columns_columns v)) (λ v k. column_key_kept x.0 def refl (omega (arith, one_more)) (λ id change c. c) (defs_of T) (version_key columns_columns v) st.only k) t.versions h.1)

  index_described : (seq : ℕ) (T : Tables) (c : CreateIndex) (m : Checked (TableDef × IndexDef)) → IdsFrom 1 (defs_of T) → index_check (defs_of T) c ≡ m → Described T → Described (carried_out T tx seq (create_index_change_set m)).tables
  index_described seq T c (Err r) ids e d = d
  index_described seq T c (Ok x) ids e d =
      let i : Indexed (defs_of T) x = indexed (defs_of T) c x e in
      let def : TableDef = with_index x.0 x.1 in
      let ds : Defs = redef def (defs_of T) in
      let g : List Version → List Version = changed_all tx seq (index_starts x.0 x.1) in
      let U : Tables = changed_table columns_id g T in
      let there = has_indexed_table place tx T x ids i in
      let one_more : length def.indexes ≡ length x.0.indexes + 1 = length-append x.0.indexes (x.1 ∷ []) in
      let st : ListedOnce 1 x.0 T = is_listed_once 1 x.0 T ids there in
      let have : AllByRecursion (HasColumns def) U = only_columns x U (only_this T U x (same_defs columns_id g T) ids i) in
      subst (λ (W : Tables). Described (redefined def W)) (sym (in_one_table tx seq columns_id (index_starts x.0 x.1) T))
      (described_by ds (redefined def U) (defs_redefined def U ∙ ap (redef def) (same_defs columns_id g T)) (record {
        of_tables = of_redefined tables_id (TablesAbout ds) (TablesAbout ds) def U have (λ t h. h) (λ t same h. (sym same ∙ h.0, h.1))
            (of_other tables_id columns_id (TablesAbout ds) g T (λ k. cc)
            (of_weaker tables_id (TablesAbout (defs_of T)) (TablesAbout ds) T (λ t h. (h.0, all_weaker (λ v. IsTableKey (defs_of T) (version_key tables_columns v)) (λ v. IsTableKey ds (version_key tables_columns v)) (λ v k. table_key_kept x.0 def refl (omega (arith, one_more)) (λ id change c. c) (defs_of T) (version_key tables_columns v) st.only k) t.versions h.1)) d.of_tables));
        of_columns = of_redefined columns_id (ColumnsAbout ds) (ColumnsAbout ds) def U have (λ t h. h) (λ t same h. (sym same ∙ h.0, h.1))
            (of_changed columns_id (ColumnsAbout (defs_of T)) (ColumnsAbout ds) g T (λ t h. (h.0, known_parts seq T x ids i t h)) d.of_columns);
        few = all_redefined IsFew def (defs_of T) (few_columns place tx T x.0 d there) d.few;
        types = all_redefined InRange def (defs_of T) (of_def InRange T x.0 d.types there) d.types;
        count = omega (arith, d.count, length-map (defs_of T) (λ (y : TableDef). if y.id == def.id then def else y));
      }))

  -- ---- ALTER TABLE and DROP TABLE

  of_kept : (id : ℕ) (P : Table → Type 0) (def : TableDef) (T : Tables) → (id ≡ def.id → ⊥) → OfTable id P T → OfTable id P (redefined def T)
  of_kept id P def [] other o = o
  of_kept id P def (t ∷ ts) other o = elim o [
    | inl p ↦ inl (here (t.def.id == def.id) refl p)
    | inr q ↦ inr (of_kept id P def ts other q)
  ]
    where
      here : (b : Bool) → (t.def.id == def.id) ≡ b → (t.def.id ≡ id) × P t → (let u : Table = if b then with_def def t else t in (u.def.id ≡ id) × P u)
      here true e p = absurd (other (sym p.0 ∙ eqb-true t.def.id def.id e))
      here false e p = p

  module _ (T : Tables) (a : Altered) (ids : IdsFrom 1 (defs_of T)) (g : Enters T a) where
    abbrev defs_then : Defs
    defs_then = redef a.def (defs_of T)

    wider : (id change : ℕ) → IsChange id change g.c.g.old → IsChange id change a.def
    wider id change k e = omega (arith, g.c.room change (k (sym g.c.g.alters.id ∙ e)))

    as_many : length g.c.g.old.indexes ≤ length a.def.indexes
    as_many = omega (arith, ap (λ (xs : List IndexDef). length xs) g.c.g.alters.indexes)

    known_first : (seq : ℕ) (t : Table) → TablesAbout (defs_of T) t → AllByRecursion (λ v. IsTableKey defs_then (version_key tables_columns v)) (changed_all tx seq a.first t.versions)
    known_first seq t h =
        subst (λ (cs : List Change). AllByRecursion (λ v. IsTableKey defs_then (version_key tables_columns v)) (changed_all tx seq cs t.versions)) (sym g.first_are)
        (keys_after tables_columns (IsTableKey defs_then) tx seq g.first_rows t.versions g.first_known
        (all_weaker (λ v. IsTableKey (defs_of T) (version_key tables_columns v)) (λ v. IsTableKey defs_then (version_key tables_columns v))
        (λ v k. table_key_kept g.c.g.old a.def g.c.g.alters.id as_many wider (defs_of T) (version_key tables_columns v) (only_old T a.def ids g.c.g) k) t.versions h.1))

    known_second : (seq : ℕ) (t : Table) → ColumnsAbout (defs_of T) t → AllByRecursion (λ v. IsColumnKey defs_then (version_key columns_columns v)) (changed_all tx seq a.second t.versions)
    known_second seq t h =
        subst (λ (cs : List Change). AllByRecursion (λ v. IsColumnKey defs_then (version_key columns_columns v)) (changed_all tx seq cs t.versions)) (sym g.second_are)
        (keys_after columns_columns (IsColumnKey defs_then) tx seq g.second_rows t.versions g.second_known
        (all_weaker (λ v. IsColumnKey (defs_of T) (version_key columns_columns v)) (λ v. IsColumnKey defs_then (version_key columns_columns v))
        (λ v k. column_key_kept g.c.g.old a.def g.c.g.alters.id as_many wider (defs_of T) (version_key columns_columns v) (only_old T a.def ids g.c.g) k) t.versions h.1))

    no_system : (id : ℕ) → id ≤ 2 → id ≡ a.def.id → ⊥
    no_system id le e = omega (arith, le, e, g.c.g.alters.id, g.c.g.users)

    entered_described : (m n : ℕ) → Described T → Described (redefined a.def (changed_table columns_id (changed_all tx n a.second) (changed_table tables_id (changed_all tx m a.first) T)))
    entered_described m n d =
        let def : TableDef = a.def in
        let f : List Version → List Version = changed_all tx m a.first in
        let h : List Version → List Version = changed_all tx n a.second in
        let U : Tables = changed_table tables_id f T in
        let W : Tables = changed_table columns_id h U in
        let there = has_old T def ids g.c.g in
        described_by defs_then (redefined def W) (defs_redefined def W ∙ ap (redef def) (same_defs columns_id h U ∙ same_defs tables_id f T)) (record {
          of_tables = of_kept tables_id (TablesAbout defs_then) def W (no_system tables_id (omega arith))
              (of_other tables_id columns_id (TablesAbout defs_then) h U (λ e. cc)
              (of_changed tables_id (TablesAbout (defs_of T)) (TablesAbout defs_then) f T (λ t k. (k.0, known_first m t k)) d.of_tables));
          of_columns = of_kept columns_id (ColumnsAbout defs_then) def W (no_system columns_id (omega arith))
              (of_changed columns_id (ColumnsAbout (defs_of T)) (ColumnsAbout defs_then) h U (λ t k. (k.0, known_second n t k))
              (of_other columns_id tables_id (ColumnsAbout (defs_of T)) f T (λ e. cc) d.of_columns));
          few = all_redefined IsFew def (defs_of T) (g.c.g.alters.few (of_def IsFew T g.c.g.old d.few there)) d.few;
          types = all_redefined InRange def (defs_of T) (g.c.types (of_def InRange T g.c.g.old d.types there)) d.types;
          count = omega (arith, d.count, length-map (defs_of T) (λ (y : TableDef). if y.id == def.id then def else y));
        })

  altered_described : (seq : ℕ) (T : Tables) (m : Checked Altered) → IdsFrom 1 (defs_of T) → ((a : Altered) → m ≡ Ok a → Enters T a) → Described T → Described (carried_out T tx seq (altered_change_set m)).tables
  altered_described seq T (Err r) ids f d = d
  altered_described seq T (Ok a) ids f d =
      let cs : List TableChange = in_table tables_id a.first in
      let next : ℕ = seq + length cs in
      let whole : changed_from tx seq (cs ++ in_table columns_id a.second) T ≡ changed_table columns_id (changed_all tx next a.second) (changed_table tables_id (changed_all tx seq a.first) T) =
      in_turn tx seq cs (in_table columns_id a.second) T ∙ in_one_table tx next columns_id a.second (changed_from tx seq cs T)
      ∙ ap (changed_table columns_id (changed_all tx next a.second)) (in_one_table tx seq tables_id a.first T) in
      subst (λ (U : Tables). Described (redefined a.def U)) (sym whole) (entered_described T a ids (f a refl) seq next d)

  -- ---- all statements

  change_set_described : (seq : ℕ) (T : Tables) (stmt : Stmt) → IdsFrom 1 (defs_of T) → Described T → Described (carried_out T tx seq (change_set T stmt)).tables
  unfolding change_set
  change_set_described seq T (s.Create c) ids d = table_described seq T c (create_check (defs_of T) c) ids refl d
  change_set_described seq T (s.Index c) ids d = index_described seq T c (index_check (defs_of T) c) ids refl d
  change_set_described seq T (s.Alter y) ids d = altered_described seq T (alteration (defs_of T) (versions_of T tables_id) (versions_of T columns_id) y) ids (altering_enters place tx T y ids d) d
  change_set_described seq T (s.Drop name) ids d = altered_described seq T (table_drop (defs_of T) (versions_of T tables_id) (versions_of T columns_id) name) ids (dropping_enters place tx T name ids d) d
  change_set_described seq T (s.Change stmt) ids d = change_described seq T stmt (row_statement_check (defs_of T) stmt) refl d
  change_set_described seq T (s.Select q) ids d = query_described seq T q (query_check (defs_of T) q) d
  change_set_described seq T s.Begin ids d = d
  change_set_described seq T s.Commit ids d = d
  change_set_described seq T (s.Save name) ids d = d
  change_set_described seq T (s.Rollback name) ids d = d
  change_set_described seq T s.Digest ids d = d
  change_set_described seq T s.Image ids d = d

  pub statement_described : (seq : ℕ) (T : Tables) (stmt : Stmt) → IdsFrom 1 (defs_of T) → Described T → Described (effect T tx seq stmt).tables
  statement_described seq T stmt ids d = subst (λ (e : Effect). Described e.tables) (sym (carries_change_set_out T tx seq stmt)) (change_set_described seq T stmt ids d)

-- ---- what stands before any transaction

pub none_below : (n : ℕ) → (let z : ℕ = 0 in z ≡ cond (nat_lt n 0) 1 0)
none_below n = rw (le-ltb n 0 (omega arith)) refl

pub first_kept : (place : ℕ → ℕ) (tx : ℕ) → Kept place tx 0 first_tables
unfolding first_tables
first_kept place tx = record {
  sound = first_sound tx 0;
  own = none_below;
  others = λ id. (0, none_below);
  each = (record { past = tt; apart = tt; fit = tt }, (record { past = tt; apart = tt; fit = tt }, tt));
}

pub first_described : Described first_tables
unfolding first_tables is_in_range
first_described = record { of_tables = inl (refl, (refl, tt)); of_columns = inr (inl (refl, (refl, tt))); few = (omega arith, (omega arith, tt)); types = ((refl, (refl, (refl, (refl, (refl, (refl, tt)))))), ((refl, (refl, (refl, (refl, (refl, (refl, (refl, (refl, (refl, tt))))))))), tt)); count = omega arith }
