-- Each statement keeps what rows tell of the columns of users' tables.
use Rattle.std.proofs.Common.{◌≡◌, ◌≤◌, ◌<◌, ℕ, suc, ◌+◌, inl, inr, refl, sym, ap, subst, ◌∙◌, List, [], ◌∷◌, map, length, Ok, Err, arith}
use Rattle.std.proofs.lemmas.Bool.{leb-false}
use Rattle.std.specs.Prelude.{pos, slice_get}
use Rattle.std.specs.List.{AllByRecursion}
use Rattle.sql_value.specs.declared.column.ColumnDef.{ColumnDef}
use Rattle.sql_value.specs.declared.value.Value.{Value}
use Rattle.sql_types.specs.declared.statement.Alter.{Alter}
use Rattle.sql_types.specs.declared.statement.Alter.TheVariants.{Add, DropColumn}
use Rattle.sql_types.specs.declared.statement.CreateIndex.{CreateIndex}
use Rattle.sql_types.specs.declared.statement.CreateTable.{CreateTable}
use Rattle.sql_types.specs.declared.statement.RowStmt.{RowStmt}
use Rattle.sql_types.specs.declared.statement.Select.{Select}
use Rattle.sql_types.specs.declared.statement.Stmt.{Stmt}
use Rattle.sql_types.specs.declared.statement.Stmt.TheVariants as s
use Rattle.sql_types.specs.declared.table.IndexDef.{IndexDef}
use Rattle.sql_types.specs.declared.table.TableDef.{TableDef}
use Rattle.sql_types.specs.declared.version.Version.{Version}
use Rattle.spec_model.specs.Refusals.{Checked}
use Rattle.spec_model.specs.Limits.{max_columns}
use Rattle.spec_model.specs.Lists.{numbered, inserted}
use Rattle.spec_model.specs.Rows.{Row, number, start_cmp, stored_row, values_of}
use Rattle.spec_model.specs.Keys.{Key, value_at, version_key}
use Rattle.spec_model.specs.Changes.{Change, Changes, Starts, changed_all, row_changes}
use Rattle.spec_model.specs.Catalog.{Defs, NamedPart, Tables, defs_of, versions_of, changed_table}
use Rattle.spec_model.specs.Checks.{row_statement_check}
use Rattle.spec_model.specs.Query.{query_check}
use Rattle.spec_model.specs.SystemTables.{tables_id, columns_id, columns_columns, column_row, column_rows, index_row, index_rows}
use Rattle.spec_model.specs.Create.{create_check, index_check, with_index}
use Rattle.spec_model.specs.Alter.{column_to_add, with_added, dropped_column, with_dropped, dropped_table, WithColumn, alter_check, next_change, Altered, gone_table, alteration, table_drop}
use Rattle.spec_model.specs.Effect.{Effect, effect, query_rows, table_start, column_starts, with_def, redefined}
use Rattle.spec_model.specs.ChangeSets.{TableChange, in_table, changed_in, changed_from, ChangeSet, row_change_set, row_stmt_change_set, select_change_set, query_change_set, create_table_change_set, create_index_change_set, altered_change_set, change_set, carried_out}
use Rattle.spec_model.specs.Agreement.{IdsFrom}
use Rattle.law_frame.proofs.Alls.{all_weaker, all_append}
use Rattle.law_frame.proofs.Alterations.{Stands, Added, added, ColumnDropped, column_dropped, TableDropped, table_dropped}
use Rattle.law_frame.proofs.AtTable.{changed_at}
use Rattle.law_frame.proofs.BaseTables.{users_table}
use Rattle.law_frame.proofs.Definitions.{changes_keep_defs}
use Rattle.law_frame.proofs.ChangeSets.{carries_change_set_out, in_one_table, in_turn}
use Rattle.law_journal.specs.Fine.{OfTable, AllFine}
use Rattle.law_journal.specs.Kept.{IsPast, Kept}
use Rattle.law_journal.specs.Described.{items_below, IsColumnKey, Described}
use Rattle.law_journal.proofs.Altered.{by_alter, by_drop, of_out}
use Rattle.law_journal.proofs.Created.{Created, created, Indexed, indexed}
use Rattle.law_journal.proofs.DefLists.{all_defs, no_items, IsOnly, is_listed_once}
use Rattle.law_journal.proofs.Entering.{with_its_versions}
use Rattle.law_journal.proofs.Lift.{of_weaker, of_other, found_table}
use Rattle.law_journal.proofs.NumberKeys.{column_version_key}
use Rattle.law_journal.proofs.Order.{new_version}
use Rattle.law_journal.proofs.Statements.{ColumnsAbout, has_indexed_table, change_set_fine}
use Rattle.law_catalog_time.specs.AsOfStart.{IsNumber}
use Rattle.law_catalog_time.proofs.ToldColumns.{IsAbout, ToldTable}
use Rattle.law_catalog_time.proofs.EnteredRows.{entry, column_about, part_about, changed_about, added_told, dropped_told}
use Rattle.law_catalog_time.proofs.CreatedColumns.{created_told}
use Rattle.law_catalog_time.proofs.Statements.{past_at, AllBelow, ids_below}
use Rattle.law_catalog_time.proofs.ToldChanges.{IsOfNoColumn, IsOfNoColumns, AllTold, all_told, new_told, HasColumns, redefined_told, versions_changed, entered_told}

-- ---- starts of rows of users' tables and of the table of tables

elsewhere_told : (defs : Defs) (id : ℕ) (cs : List Change) → (id ≡ columns_id → ⊥) → AllByRecursion (IsOfNoColumns defs) (in_table id cs)
elsewhere_told defs id [] other = tt
elsewhere_told defs id (c ∷ cs) other = ((λ e. absurd (other e)), elsewhere_told defs id cs other)

-- ---- the rows of CREATE TABLE and CREATE INDEX

column_starts_told : (defs : Defs) (id n : ℕ) (cs : List ColumnDef) → AllBelow id defs → AllByRecursion (IsOfNoColumns defs) (in_table columns_id (column_starts (map (column_row id) (numbered n cs))))
column_starts_told defs id n [] below = tt
column_starts_told defs id n (c ∷ cs) below = (
  (λ _. all_weaker (λ (d : TableDef). d.id < id) (λ (d : TableDef). 2 < d.id → IsOfNoColumn (Starts (stored_row columns_columns (column_row id (n, c)))) d.id)
      (λ d lt users m low about. (let same = (column_about id (n, c) d.id m about).0 in omega (arith, same, lt))) defs below),
  column_starts_told defs id (n + 1) cs below,
)

part_starts_told : (defs : Defs) (id g n : ℕ) (name : List ℕ) (os : List ℕ) → 1 ≤ g → AllByRecursion (IsOfNoColumns defs) (in_table columns_id (column_starts (map (index_row id g name) (numbered n os))))
part_starts_told defs id g n name [] le = tt
part_starts_told defs id g n name (o ∷ os) le = ((λ _. every defs), part_starts_told defs id g (n + 1) name os le)
  where
    every : (ds : Defs) → AllByRecursion (λ (d : TableDef). 2 < d.id → IsOfNoColumn (Starts (stored_row columns_columns (index_row id g name (n, o)))) d.id) ds
    every [] = tt
    every (d ∷ ds) = ((λ users m low about. (let same = (part_about id g name (n, o) d.id m about).1 in omega (arith, same, low, le))), every ds)

-- ---- no row is about a table that there isn't

number_is : (a b : ℕ) (v : Value) → v ≡ number b → IsNumber a v → b ≡ a
number_is a b v e h = let is : pos b ≡ pos a = subst (IsNumber a) e h in cc

first_of_key : (x y : Value) (k l : Key) → (x ∷ k) ≡ (y ∷ l) → x ≡ y
first_of_key x y k l e = cc

none_of_new : (defs : Defs) (id : ℕ) → IdsFrom 1 defs → length defs < id → (w : Version) → IsColumnKey defs (version_key columns_columns w) → (n : ℕ) → IsAbout id n w → ⊥
none_of_new defs id ids new w key n about =
    let first = first_of_key (value_at (values_of w) 0) (number key.0) _ _ (sym (column_version_key w) ∙ key.5) in
    let same : key.0 ≡ id = number_is id key.0 (value_at (values_of w) 0) first about.0 in
    let none : items_below defs key.0 ≡ 0 = no_items 1 key.0 defs ids (omega (arith, same, new)) in
    let below = key.3 in
    omega (arith, below, none)

module _ (T : Tables) (ids : IdsFrom 1 (defs_of T)) (d : Described T) where
  second_keys : AllByRecursion (λ v. IsColumnKey (defs_of T) (version_key columns_columns v)) (versions_of T columns_id)
  second_keys =
      of_out columns_id (λ t. ColumnsAbout (defs_of T) t × (t.versions ≡ versions_of T columns_id))
      (AllByRecursion (λ v. IsColumnKey (defs_of T) (version_key columns_columns v)) (versions_of T columns_id)) T
      (with_its_versions columns_id (ColumnsAbout (defs_of T)) T ids d.of_columns)
      (λ t h. subst (λ (vs : List Version). AllByRecursion (λ v. IsColumnKey (defs_of T) (version_key columns_columns v)) vs) h.1 h.0.1)

  none_about : (id : ℕ) → length (defs_of T) < id → AllByRecursion (λ w. (n : ℕ) → IsAbout id n w → ⊥) (versions_of T columns_id)
  none_about id new =
      all_weaker (λ v. IsColumnKey (defs_of T) (version_key columns_columns v)) (λ w. (n : ℕ) → IsAbout id n w → ⊥)
      (λ w key. none_of_new (defs_of T) id ids new w key) (versions_of T columns_id) second_keys

-- ---- each statement

-- the tables when a set of changes is carried out
abbrev after : Tables → ℕ → ℕ → ChangeSet → Tables
after T tx seq p = (carried_out T tx seq p).tables

module _ (place : ℕ → ℕ) (tx seq : ℕ) (T : Tables) (k : Kept place tx seq T) (d : Described T) (h : AllTold place T) where
  abbrev Defined : Defs
  Defined = defs_of T

  by_changes : (cs : List TableChange) → AllFine tx seq cs T → AllByRecursion (IsOfNoColumns Defined) cs → AllTold place (changed_from tx seq cs T)
  by_changes cs fine none = all_told place tx seq cs T k fine d.few none h

  -- ---- CREATE TABLE

  second_after : (def : TableDef) → versions_of (changed_from tx seq (create_table_change_set (Ok def)).changes T) columns_id ≡ changed_all tx (seq + 1) (column_starts (column_rows def)) (versions_of T columns_id)
  second_after def =
      let first : List TableChange = in_table tables_id (table_start def) in
      let second : List Change = column_starts (column_rows def) in
      let U : Tables = changed_table tables_id (changed_all tx seq (table_start def)) T in
      ap (λ (W : Tables). versions_of W columns_id)
      (in_turn tx seq first (in_table columns_id second) T
      ∙ in_one_table tx (seq + 1) columns_id second (changed_from tx seq first T)
      ∙ ap (changed_table columns_id (changed_all tx (seq + 1) second)) (in_one_table tx seq tables_id (table_start def) T))
      ∙ versions_changed columns_id (changed_all tx (seq + 1) second) (ColumnsAbout Defined) U (of_other columns_id tables_id (ColumnsAbout Defined) (changed_all tx seq (table_start def)) T (λ e. cc) d.of_columns)
      ∙ ap (changed_all tx (seq + 1) second) (elim (changed_at tables_id columns_id (changed_all tx seq (table_start def)) T) [ inl same ↦ same | inr own ↦ absurd (let e = own.0 in omega (arith, e)) ])

  create_told : (c : CreateTable) (m : Checked TableDef) → create_check Defined c ≡ m → AllFine tx seq (create_table_change_set m).changes T → AllTold place (after T tx seq (create_table_change_set m))
  unfolding column_rows
  create_told c (Err e) is fine = h
  create_told c (Ok def) is fine =
      let f : Created Defined def = created Defined c def is in
      let U : Tables = changed_from tx seq (create_table_change_set (Ok def)).changes T in
      new_told place def U
      (subst (λ (second : List Version). ToldTable place second (record { def = def; versions = [] })) (sym (second_after def))
      (created_told place def (versions_of T columns_id) tx (seq + 1) (none_about T k.sound.ids d def.id (omega (arith, f.id)))))
      (by_changes (create_table_change_set (Ok def)).changes fine
      (all_append (IsOfNoColumns Defined) (in_table tables_id (table_start def)) (in_table columns_id (column_starts (column_rows def)))
      (elsewhere_told Defined tables_id (table_start def) (λ e. omega (arith, e)))
      (column_starts_told Defined def.id 1 def.columns (ids_below 1 def.id Defined k.sound.ids (omega (arith, f.id))))))

  -- ---- CREATE INDEX

  index_told : (c : CreateIndex) (m : Checked (TableDef × IndexDef)) → index_check Defined c ≡ m → AllFine tx seq (create_index_change_set m).changes T → AllTold place (after T tx seq (create_index_change_set m))
  unfolding index_rows
  index_told c (Err e) is fine = h
  index_told c (Ok x) is fine =
      let i : Indexed Defined x = indexed Defined c x is in
      let changes : List TableChange = (create_index_change_set (Ok x)).changes in
      let U : Tables = changed_from tx seq changes T in
      let only : AllByRecursion (IsOnly x.0) (defs_of U) = subst (λ (ds : Defs). AllByRecursion (IsOnly x.0) ds) (sym (changes_keep_defs tx seq changes T)) (is_listed_once 1 x.0 T k.sound.ids (has_indexed_table place tx T x k.sound.ids i)).only in
      redefined_told place (with_index x.0 x.1) U
      (all_weaker (λ t. IsOnly x.0 t.def) (HasColumns place (with_index x.0 x.1)) (λ t o e. ap (λ (def : TableDef). def.columns) (o e)) U (all_defs (IsOnly x.0) U only))
      (by_changes changes fine (part_starts_told Defined x.0.id (length x.0.indexes + 1) 1 x.1.name x.1.ordinals (omega arith)))

  -- ---- ALTER TABLE and DROP TABLE

  only_found : (name : List ℕ) (n : NamedPart) → Stands Defined name n → AllByRecursion (IsOnly n.0) Defined
  only_found name n s =
      let f = (found_table 1 T name n k.sound.ids s.by_name).there in
      let there : OfTable n.0.id (λ t. t.def ≡ n.0) T = of_weaker n.0.id (λ t. (t.def ≡ n.0) × (t.versions ≡ versions_of T n.0.id)) (λ t. t.def ≡ n.0) T (λ t e. e.0) f in
      (is_listed_once 1 n.0 T k.sound.ids there).only

  -- a row of the change of a column
  abbrev Entered : ℕ → WithColumn → Type 0
  Entered n x = AllTold place (redefined x.0 (changed_in (tx, seq) (columns_id, Starts (entry n x.0 x.1)) T))

  past : AllByRecursion (IsPast place (tx, seq)) (versions_of T columns_id)
  past = past_at place (tx, seq) columns_id T k.each

  add_told : (n : ℕ) (table : List ℕ) (c : ColumnDef) (x : WithColumn) → alter_check Defined (Add table c) ≡ Ok x → Entered n x
  add_told n table c x e =
      let p : Added Defined table c x = added Defined table c x e in
      let old : TableDef = p.found.0 in
      let place_of_row : TableDef → ℕ × ColumnDef = λ (t : TableDef). (suc (length t.columns), column_to_add c) in
      subst (Entered n) (sym p.is)
      (entered_told place tx seq T k d h old (with_added old c) (entry n (with_added old c) (place_of_row old)) refl
      (λ i m about. (changed_about n (with_added old c) (place_of_row old) i m about).0)
      (λ t is before fit told. subst (λ (x : TableDef). ToldTable place (inserted start_cmp (new_version (tx, seq) (entry n (with_added x c) (place_of_row x))) (versions_of T columns_id)) (with_def (with_added x c) t)) is
      (added_told place (versions_of T columns_id) (tx, seq) past t before n c
      (let room = leb-false max_columns (length old.columns) p.room in let same = ap (λ (x : TableDef). length x.columns) is in omega (arith, room, same)) fit told))
      (all_defs (IsOnly old) T (only_found table p.found p.stands)))

  drop_column_told : (n : ℕ) (table name : List ℕ) (x : WithColumn) → alter_check Defined (DropColumn table name) ≡ Ok x → Entered n x
  drop_column_told n table name x e =
      let p : ColumnDropped Defined table name x = column_dropped Defined table name x e in
      let old : TableDef = p.found.0 in
      let q : ℕ × ColumnDef = (suc p.column.0, dropped_column (suc p.column.0) p.column.1) in
      subst (Entered n) (sym p.is)
      (entered_told place tx seq T k d h old (with_dropped old p.column) (entry n (with_dropped old p.column) q) refl
      (λ i m about. (changed_about n (with_dropped old p.column) q i m about).0)
      (λ t is before fit told. subst (λ (x : TableDef). ToldTable place (inserted start_cmp (new_version (tx, seq) (entry n (with_dropped x p.column) q)) (versions_of T columns_id)) (with_def (with_dropped x p.column) t)) is
      (dropped_told place (versions_of T columns_id) (tx, seq) past t before n p.column (ap (λ (x : TableDef). slice_get x.columns p.column.0) is ∙ p.live.at) told))
      (all_defs (IsOnly old) T (only_found table p.found p.stands)))

  column_told : (n : ℕ) (y : Alter) (x : WithColumn) → alter_check Defined y ≡ Ok x → Entered n x
  column_told n (Add table c) x e = add_told n table c x e
  column_told n (DropColumn table name) x e = drop_column_told n table name x e

  alter_told : (y : Alter) (m : Checked Altered) → alteration Defined (versions_of T tables_id) (versions_of T columns_id) y ≡ m → AllTold place (after T tx seq (altered_change_set m))
  alter_told y (Err e) is = h
  alter_told y (Ok a) is =
      by_alter Defined (versions_of T tables_id) (versions_of T columns_id) (λ b. AllTold place (after T tx seq (altered_change_set (Ok b)))) y a is
      (λ x e. column_told (next_change x.0.id (versions_of T tables_id) (versions_of T columns_id)) y x e)

  dropped_keeps : (old : TableDef) → ((dropped_table old).columns ≡ old.columns) × ((dropped_table old).id ≡ old.id)
  unfolding dropped_table
  dropped_keeps old = (refl, refl)

  drop_told : (name : List ℕ) (m : Checked Altered) → table_drop Defined (versions_of T tables_id) (versions_of T columns_id) name ≡ m → AllFine tx seq (altered_change_set m).changes T → AllTold place (after T tx seq (altered_change_set m))
  drop_told name (Err e) is fine = h
  drop_told name (Ok a) is fine =
      by_drop Defined (versions_of T tables_id) (versions_of T columns_id) (λ b. AllFine tx seq (altered_change_set (Ok b)).changes T → AllTold place (after T tx seq (altered_change_set (Ok b)))) name a is
      (λ def e fine.
      (let p : TableDropped Defined name def = table_dropped Defined name def e in
      let cs : List TableChange = (altered_change_set (Ok (gone_table (next_change def.id (versions_of T tables_id) (versions_of T columns_id)) def))).changes in
      let U : Tables = changed_from tx seq cs T in
      let only : AllByRecursion (IsOnly p.found.0) (defs_of U) = subst (λ (ds : Defs). AllByRecursion (IsOnly p.found.0) ds) (sym (changes_keep_defs tx seq cs T)) (only_found name p.found p.stands) in
      let columns : p.found.0.columns ≡ def.columns = sym (ap (λ (x : TableDef). x.columns) p.is ∙ (dropped_keeps p.found.0).0) in
      let id : def.id ≡ p.found.0.id = ap (λ (x : TableDef). x.id) p.is ∙ (dropped_keeps p.found.0).1 in
      redefined_told place def U
      (all_weaker (λ t. IsOnly p.found.0 t.def) (HasColumns place def) (λ t o same. ap (λ (x : TableDef). x.columns) (o (same ∙ id)) ∙ columns) U (all_defs (IsOnly p.found.0) U only))
      (by_changes cs fine ((λ e. absurd (omega (arith, e))), tt)))) fine

  -- ---- rows of users' tables

  rows_told : (id : ℕ) (m : Checked Changes) → 2 < id → AllFine tx seq (row_change_set id m).changes T → AllTold place (after T tx seq (row_change_set id m))
  rows_told id (Ok c) lt fine = by_changes (in_table id c.0) fine (elsewhere_told Defined id c.0 (λ e. omega (arith, e, lt)))
  rows_told id (Err e) lt fine = h

  change_told : (stmt : RowStmt) (m : Checked TableDef) → row_statement_check Defined stmt ≡ m → AllFine tx seq (row_stmt_change_set T stmt m).changes T → AllTold place (after T tx seq (row_stmt_change_set T stmt m))
  change_told stmt (Ok def) is fine = rows_told def.id (row_changes def (versions_of T def.id) stmt) (users_table Defined stmt def is) fine
  change_told stmt (Err e) is fine = h

  shown_told : (m : Checked (List Row)) → AllTold place (after T tx seq (select_change_set m))
  shown_told (Ok rows) = h
  shown_told (Err e) = h

  query_told : (q : Select) (m : Checked NamedPart) → AllTold place (after T tx seq (query_change_set T q m))
  query_told q (Ok n) = shown_told (query_rows q n (versions_of T n.0.id))
  query_told q (Err e) = h

  -- ---- all statements

  carried_out_told : (stmt : Stmt) → AllFine tx seq (change_set T stmt).changes T → AllTold place (after T tx seq (change_set T stmt))
  unfolding change_set
  carried_out_told (s.Create c) fine = create_told c (create_check Defined c) refl fine
  carried_out_told (s.Index c) fine = index_told c (index_check Defined c) refl fine
  carried_out_told (s.Alter y) fine = alter_told y (alteration Defined (versions_of T tables_id) (versions_of T columns_id) y) refl
  carried_out_told (s.Drop name) fine = drop_told name (table_drop Defined (versions_of T tables_id) (versions_of T columns_id) name) refl fine
  carried_out_told (s.Change stmt) fine = change_told stmt (row_statement_check Defined stmt) refl fine
  carried_out_told (s.Select q) fine = query_told q (query_check Defined q)
  carried_out_told s.Begin fine = h
  carried_out_told s.Commit fine = h
  carried_out_told (s.Save name) fine = h
  carried_out_told (s.Rollback name) fine = h
  carried_out_told s.Digest fine = h
  carried_out_told s.Image fine = h

  pub statement_told : (stmt : Stmt) → AllTold place (effect T tx seq stmt).tables
  statement_told stmt =
      subst (λ (e : Effect). AllTold place e.tables) (sym (carries_change_set_out T tx seq stmt))
      (carried_out_told stmt (change_set_fine place tx seq T stmt k d))
