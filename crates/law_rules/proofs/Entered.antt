-- What a statement of a transaction of its own enters in the system's tables, and what it leaves alone.
use Rattle.std.proofs.Common.{◌≡◌, ◌<◌, ◌⊎◌, ℕ, ◌+◌, inl, inr, refl, sym, ap, subst, ◌∙◌, arith, Bool, true, false, List, [], ◌∷◌, ◌++◌, length, Ok, Err, Option, None, Some}
use Rattle.std.proofs.lemmas.Bool.{eqb-true}
use Rattle.std.proofs.lemmas.List.Sorted.{IsPermutation-refl}
use Rattle.std.specs.Prelude.{◌==◌, if◌then◌else◌, IfSome}
use Rattle.std.specs.List.{AllByRecursion}
use Rattle.std.specs.List.Sorted.{IsPermutation}
use Rattle.sql_types.specs.declared.statement.RowStmt.{RowStmt}
use Rattle.sql_types.specs.declared.statement.Select.{Select}
use Rattle.sql_types.specs.declared.statement.Stmt.{Stmt}
use Rattle.sql_types.specs.declared.statement.Stmt.TheVariants as s
use Rattle.sql_types.specs.declared.table.IndexDef.{IndexDef}
use Rattle.sql_types.specs.declared.table.TableDef.{TableDef}
use Rattle.sql_types.specs.declared.version.Table.{Table}
use Rattle.sql_types.specs.declared.version.Version.{Version}
use Rattle.spec_model.specs.Agreement.{IdsFrom}
use Rattle.spec_model.specs.Alter.{Altered, added_to, dropped_from, dropped_table, WithColumn}
use Rattle.spec_model.specs.Catalog.{NamedPart, Tables, defs_of, versions_of, changed_table, with_versions}
use Rattle.spec_model.specs.Changes.{Changes, Change, changed_all, row_changes}
use Rattle.spec_model.specs.Checks.{row_statement_check}
use Rattle.spec_model.specs.Effect.{effect, done, row_effect, shown, query_rows, query_effect, table_effect, index_effect, altered_effect, redefined, with_def, with_system_rows}
use Rattle.spec_model.specs.Query.{query_check}
use Rattle.spec_model.specs.Reach.{creates}
use Rattle.spec_model.specs.Refusals.{Checked}
use Rattle.spec_model.specs.Rows.{Row}
use Rattle.spec_model.specs.Runs.{Sound}
use Rattle.spec_model.specs.Script.{Reading, start, script, script_from, text_step, by_statement, alone}
use Rattle.spec_model.specs.SystemTables.{tables_id, columns_id, table_row, column_rows, index_rows, changed_table_row, changed_column_row}
use Rattle.law_frame.proofs.Alls.{all_append}
use Rattle.law_frame.proofs.BaseTables.{users_table}
use Rattle.law_frame.proofs.SoundStatements.{statement_sound}
use Rattle.law_frame.proofs.StepByStep.{Any, Throughout, throughout, script_keeps}
use Rattle.law_journal.specs.Kept.{Kept}
use Rattle.law_catalog_rows.specs.Written.{StatementWritten, ReadsWritten}
use Rattle.law_catalog_rows.proofs.About.{StartsWith, table_starts, columns_start, parts_start}
use Rattle.law_catalog_rows.proofs.ChangedTables.{users_changed}
use Rattle.law_catalog_rows.proofs.Forms.{made}
use Rattle.spec_rules.specs.Rows.{CatalogRows}
use Rattle.spec_rules.specs.OneStatement.{is_system_table}
use Rattle.law_rules.specs.Steps.{Catalog, Entered, all_defs, catalog_of, placed_from}
use Rattle.law_rules.proofs.Frame.{Known, each_case}
use Rattle.law_rules.proofs.Kept.{UsersStep}
use Rattle.law_rules.proofs.OneStatement.{AreOfOne, Batch, NoRows, table_is_one, index_is_one, change_is_one, drop_is_one}

-- ---- the rows

abbrev pub OneBatch : ℕ → CatalogRows → CatalogRows → Type 0
OneBatch p x y = (b : Batch p x y) × (NoRows b.first b.second ⊎ AreOfOne p b.first b.second)

nothing_new : (p : ℕ) (x : CatalogRows) → OneBatch p x x
nothing_new p x = (record { id = 0; first = []; second = []; starts = tt; more = tt; tables = IsPermutation-refl x.tables; items = IsPermutation-refl x.items }, inl (record { first = refl; second = refl }))

columns_of_table : (def : TableDef) → AllByRecursion (StartsWith def.id) (column_rows def)
unfolding column_rows
columns_of_table def = columns_start def.id 1 def.columns

parts_of_index : (id g : ℕ) (i : IndexDef) → AllByRecursion (StartsWith id) (index_rows id g i)
unfolding index_rows
parts_of_index id g i = parts_start id g 1 i.name i.ordinals

changed_table_starts : (change : ℕ) (def : TableDef) → StartsWith def.id (changed_table_row change def)
unfolding changed_table_row
changed_table_starts change def = (_, refl)

changed_column_starts : (change : ℕ) (w : WithColumn) → StartsWith w.0.id (changed_column_row change w.0 w.1)
unfolding changed_column_row
changed_column_starts change w = (_, refl)

entered_one : (p id : ℕ) (first second : List Row) (x y : Catalog) → AllByRecursion (StartsWith id) first → AllByRecursion (StartsWith id) second → Entered (p, 0) first second x y
    → NoRows first second ⊎ AreOfOne p first second → OneBatch p x.rows y.rows
entered_one p id first second x y starts more e one = (record { id = id; first = first; second = second; starts = starts; more = more; tables = e.tables; items = subst (λ (n : ℕ). IsPermutation y.rows.items (placed_from p n second ++ x.rows.items)) count e.items }, one)
  where
    count : 0 + length first ≡ length first
    count = omega arith

statement_enters : (place : ℕ → ℕ) (tx : ℕ) (x : Catalog) (us : Tables) → UsersStep place (tx, 0) x us (λ y vs. OneBatch (place tx) x.rows y.rows)
statement_enters place tx x us = record {
  table_created = λ y around at c def passed entered defs.
      entered_one (place tx) def.id (table_row def ∷ []) (column_rows def) x y (table_starts def, tt) (columns_of_table def) entered (inr (table_is_one (place tx) def (made (all_defs x) c def passed).formed.count));
  index_created = λ y around at c i passed st entered defs.
      entered_one (place tx) i.0.id [] (index_rows i.0.id (length i.0.indexes + 1) i.1) x y tt (parts_of_index i.0.id (length i.0.indexes + 1) i.1) entered (index_is_one (place tx) i.0.id (length i.0.indexes + 1) i.1 (omega arith));
  column_added = λ y around at table c w a st change next entered.
      (let v : WithColumn = added_to a.found.0 c in
      entered_one (place tx) v.0.id [] (changed_column_row change v.0 v.1 ∷ []) x y tt (changed_column_starts change v, tt) entered.rows (inr (change_is_one (place tx) change v.0 v.1 next.above)));
  column_dropped = λ y around at table name w d st change next entered.
      (let v : WithColumn = dropped_from d.found.0 d.column in
      entered_one (place tx) v.0.id [] (changed_column_row change v.0 v.1 ∷ []) x y tt (changed_column_starts change v, tt) entered.rows (inr (change_is_one (place tx) change v.0 v.1 next.above)));
  table_dropped = λ y around at name def d st change next entered defs.
      (let v : TableDef = dropped_table d.found.0 in
      entered_one (place tx) v.id (changed_table_row change v ∷ []) [] x y (changed_table_starts change v, tt) tt entered (inr (drop_is_one (place tx) change v next.above)));
  rows_changed = λ ground before at stmt def passed st c is. nothing_new (place tx) x.rows;
}

-- ---- the users' tables

-- nothing of the transaction is in the version
pub record IsFree (tx : ℕ) (v : Version) : Type 0 where
  pub start : (v.start.0 == tx) ≡ false
  pub end : IfSome v.end (λ e. (e.0 == tx) ≡ false)

-- a table of the system, or one in which nothing is of the transaction
abbrev pub SystemOrFree : ℕ → Table → Type 0
SystemOrFree tx t = (is_system_table t.def.id ≡ true) ⊎ AllByRecursion (IsFree tx) t.versions

module _ (tx : ℕ) where
  abbrev AllSo : Tables → Type 0
  AllSo T = AllByRecursion (SystemOrFree tx) T

  changed_so : (id : ℕ) → is_system_table id ≡ true → (f : List Version → List Version) (T : Tables) → AllSo T → AllSo (changed_table id f T)
  changed_so id system f [] all = tt
  changed_so id system f (t ∷ ts) all = (here (t.def.id == id) refl, changed_so id system f ts all.1)
    where
      here : (b : Bool) → (t.def.id == id) ≡ b → SystemOrFree tx (if b then with_versions f t else t)
      here true e = inl (ap is_system_table (eqb-true t.def.id id e) ∙ system)
      here false e = all.0

  system_so : (seq : ℕ) (first second : List Change) (T : Tables) → AllSo T → AllSo (with_system_rows tx seq first second T)
  system_so seq first second T all =
      changed_so columns_id refl (changed_all tx (seq + length first) second) (changed_table tables_id (changed_all tx seq first) T) (changed_so tables_id refl (changed_all tx seq first) T all)

  redefined_so : (def : TableDef) (T : Tables) → AllSo T → AllSo (redefined def T)
  redefined_so def [] all = tt
  redefined_so def (t ∷ ts) all = (here (t.def.id == def.id) refl, redefined_so def ts all.1)
    where
      here : (b : Bool) → (t.def.id == def.id) ≡ b → SystemOrFree tx (if b then with_def def t else t)
      here true e = elim all.0 [ inl system ↦ inl (ap is_system_table (sym (eqb-true t.def.id def.id e)) ∙ system) | inr free ↦ inr free ]
      here false e = all.0

  module _ (T : Tables) (seq : ℕ) (all : AllSo T) where
    table_so : (m : Checked TableDef) → AllSo (table_effect T tx seq m).tables
    table_so (Ok def) = all_append (SystemOrFree tx) (with_system_rows tx seq _ _ T) (record { def = def; versions = [] } ∷ []) (system_so seq _ _ T all) (inr tt, tt)
    table_so (Err e) = all

    index_so : (m : Checked (TableDef × IndexDef)) → AllSo (index_effect T tx seq m).tables
    index_so (Ok i) = redefined_so _ (with_system_rows tx seq _ _ T) (system_so seq _ _ T all)
    index_so (Err e) = all

    altered_so : (m : Checked Altered) → AllSo (altered_effect T tx seq m).tables
    altered_so (Ok a) = redefined_so a.def (with_system_rows tx seq a.first a.second T) (system_so seq a.first a.second T all)
    altered_so (Err e) = all

    pub creating_so : (stmt : Stmt) → creates stmt ≡ true → AllSo (effect T tx seq stmt).tables
    unfolding effect
    creating_so (s.Create c) e = table_so _
    creating_so (s.Index c) e = index_so _
    creating_so (s.Alter a) e = altered_so _
    creating_so (s.Drop name) e = altered_so _
    creating_so (s.Change stmt) e = cc
    creating_so (s.Select q) e = cc
    creating_so s.Begin e = cc
    creating_so s.Commit e = cc
    creating_so (s.Save name) e = cc
    creating_so (s.Rollback name) e = cc
    creating_so s.Digest e = cc
    creating_so s.Image e = cc

-- ---- statements that enter no rows there

module _ (place : ℕ → ℕ) where
  abbrev rows_in : Tables → CatalogRows
  rows_in T = (catalog_of place T).rows

  users_rows : (id : ℕ) (f : List Version → List Version) (T : Tables) → IdsFrom 1 (defs_of T) → 2 < id → rows_in (changed_table id f T) ≡ rows_in T
  users_rows id f [] ids lt = refl
  users_rows id f (a ∷ []) ids lt = refl
  users_rows id f (a ∷ b ∷ ts) ids lt = ap rows_in (users_changed a b ts ids id f lt)

  module _ (tx seq : ℕ) (T : Tables) (ids : IdsFrom 1 (defs_of T)) where
    done_rows : (id : ℕ) (m : Checked Changes) → 2 < id → rows_in (done T tx seq id m).tables ≡ rows_in T
    done_rows id (Ok c) lt = users_rows id (changed_all tx seq c.0) T ids lt
    done_rows id (Err e) lt = refl

    change_rows : (stmt : RowStmt) (m : Checked TableDef) → row_statement_check (defs_of T) stmt ≡ m → rows_in (row_effect T tx seq stmt m).tables ≡ rows_in T
    change_rows stmt (Ok def) e = done_rows def.id (row_changes def (versions_of T def.id) stmt) (users_table (defs_of T) stmt def e)
    change_rows stmt (Err r) e = refl

    shown_rows : (m : Checked (List Row)) → rows_in (shown T seq m).tables ≡ rows_in T
    shown_rows (Ok rows) = refl
    shown_rows (Err e) = refl

    query_shown : (q : Select) (m : Checked NamedPart) → rows_in (query_effect T seq q m).tables ≡ rows_in T
    query_shown q (Ok n) = shown_rows (query_rows q n (versions_of T n.0.id))
    query_shown q (Err e) = refl

    pub rows_stay : (stmt : Stmt) → creates stmt ≡ false → rows_in (effect T tx seq stmt).tables ≡ rows_in T
    unfolding effect
    rows_stay (s.Create c) e = cc
    rows_stay (s.Index c) e = cc
    rows_stay (s.Alter a) e = cc
    rows_stay (s.Drop name) e = cc
    rows_stay (s.Change stmt) e = change_rows stmt (row_statement_check (defs_of T) stmt) refl
    rows_stay (s.Select q) e = query_shown q (query_check (defs_of T) q)
    rows_stay s.Begin e = refl
    rows_stay s.Commit e = refl
    rows_stay (s.Save name) e = refl
    rows_stay (s.Rollback name) e = refl
    rows_stay s.Digest e = refl
    rows_stay s.Image e = refl

-- ---- a transaction

-- what it enters is of one statement, and then it has events in no other table
abbrev pub Enters : (ℕ → ℕ) → ℕ → Tables → Tables → Type 0
Enters place tx T U =
    (b : Batch (place tx) (catalog_of place T).rows (catalog_of place U).rows)
    × (NoRows b.first b.second ⊎ (AreOfOne (place tx) b.first b.second × AllByRecursion (SystemOrFree tx) U))

module _ (place : ℕ → ℕ) (tx : ℕ) (T : Tables) where
  nothing_entered : (U : Tables) → (catalog_of place U).rows ≡ (catalog_of place T).rows → Enters place tx T U
  nothing_entered U e =
      subst (λ (rows : CatalogRows). (b : Batch (place tx) (catalog_of place T).rows rows) × (NoRows b.first b.second ⊎ (AreOfOne (place tx) b.first b.second × AllByRecursion (SystemOrFree tx) U))) (sym e)
      (record { id = 0; first = []; second = []; starts = tt; more = tt; tables = IsPermutation-refl (catalog_of place T).rows.tables; items = IsPermutation-refl (catalog_of place T).rows.items }, inl (record { first = refl; second = refl }))

  abbrev Stayed : ℕ → Tables → Type 0
  Stayed seq U = Sound tx seq U × ((catalog_of place U).rows ≡ (catalog_of place T).rows)

  explicit_enters : (reads : Reading) (texts : List (List ℕ)) → Sound tx 0 T → Enters place tx T (script reads true T tx texts).state.tables
  explicit_enters reads texts sound =
      nothing_entered (script reads true T tx texts).state.tables
      (script_keeps tx (Throughout Stayed) (throughout Stayed tx Any (λ n U stmt e any h. (statement_sound tx n U stmt h.0, rows_stay place tx n U h.0.ids stmt e ∙ h.1)))
      reads (start T) texts ((sound, refl), tt)).0.1

one_entered : (place : ℕ → ℕ) (tx : ℕ) (T : Tables) → Kept place tx 0 T → Known T → AllByRecursion (SystemOrFree tx) T → (stmt : Stmt) → StatementWritten stmt → creates stmt ≡ true → Enters place tx T (effect T tx 0 stmt).tables
one_entered place tx [] k known all stmt w e = absurd known.rows
one_entered place tx (a ∷ []) k known all stmt w e = absurd known.rows
one_entered place tx (a ∷ b ∷ ts) k known all stmt w e =
    let x : Catalog = catalog_of place (a ∷ b ∷ ts) in
    let one : OneBatch (place tx) x.rows (catalog_of place (effect (a ∷ b ∷ ts) tx 0 stmt).tables).rows =
    each_case place (λ y us. OneBatch (place tx) x.rows y.rows) tx 0 a b ts (statement_enters place tx x ts) k known (nothing_new (place tx) x.rows) stmt w in
    (one.0, elim one.1 [ inl none ↦ inl none | inr are ↦ inr (are, creating_so tx (a ∷ b ∷ ts) 0 all stmt e) ])

module _ (place : ℕ → ℕ) (tx : ℕ) (T : Tables) (k : Kept place tx 0 T) (known : Known T) (all : AllByRecursion (SystemOrFree tx) T) where
  alone_enters : (stmt : Stmt) → StatementWritten stmt → Enters place tx T (alone tx (start T) stmt).0.tables
  alone_enters (s.Create c) w = one_entered place tx T k known all (s.Create c) w refl
  alone_enters (s.Index c) w = one_entered place tx T k known all (s.Index c) w refl
  alone_enters (s.Alter a) w = one_entered place tx T k known all (s.Alter a) w refl
  alone_enters (s.Drop name) w = one_entered place tx T k known all (s.Drop name) w refl
  alone_enters (s.Change stmt) w = nothing_entered place tx T (effect T tx 0 (s.Change stmt)).tables (rows_stay place tx 0 T k.sound.ids (s.Change stmt) refl)
  alone_enters (s.Select q) w = nothing_entered place tx T (effect T tx 0 (s.Select q)).tables (rows_stay place tx 0 T k.sound.ids (s.Select q) refl)
  alone_enters s.Begin w = nothing_entered place tx T T refl
  alone_enters s.Commit w = nothing_entered place tx T T refl
  alone_enters (s.Save name) w = nothing_entered place tx T T refl
  alone_enters (s.Rollback name) w = nothing_entered place tx T T refl
  alone_enters s.Digest w = nothing_entered place tx T T refl
  alone_enters s.Image w = nothing_entered place tx T T refl

  text_enters : (o : Option Stmt) → ((stmt : Stmt) → o ≡ Some stmt → StatementWritten stmt) → Enters place tx T (by_statement false tx (start T) o).0.tables
  text_enters None w = nothing_entered place tx T T refl
  text_enters (Some stmt) w = alone_enters stmt (w stmt refl)

  one_text : (reads : Reading) → ReadsWritten reads → (text : List ℕ) → Enters place tx T (script reads false T tx (text ∷ [])).state.tables
  unfolding script_from text_step
  one_text reads written text = text_enters (reads text) (written text)

  pub script_enters : (reads : Reading) → ReadsWritten reads → (explicit : Bool) (texts : List (List ℕ)) → (explicit ≡ false → length texts ≡ 1) → Enters place tx T (script reads explicit T tx texts).state.tables
  script_enters reads written true texts one = explicit_enters place tx T reads texts k.sound
  script_enters reads written false [] one = absurd (let n = one refl in omega (arith, n))
  script_enters reads written false (t ∷ []) one = one_text reads written t
  script_enters reads written false (t ∷ u ∷ ts) one = absurd (let n = one refl in omega (arith, n))
