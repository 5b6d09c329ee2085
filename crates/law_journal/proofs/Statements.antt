-- Each statement's changes are fine, and each statement keeps what is kept.
use Rattle.std.proofs.Common.{◌≡◌, ◌≤◌, ◌<◌, ℕ, ◌+◌, ◌*◌, refl, sym, ap, subst, ◌∙◌, List, [], ◌∷◌, map, length, Ok, Err, arith}
use Rattle.std.specs.List.{AllByRecursion}
use Rattle.sql_value.specs.declared.column.ColumnDef.{ColumnDef}
use Rattle.sql_types.specs.declared.statement.Alter.{Alter}
use Rattle.sql_types.specs.declared.statement.Stmt.{Stmt}
use Rattle.sql_types.specs.declared.statement.Stmt.TheVariants as s
use Rattle.sql_types.specs.declared.statement.CreateTable.{CreateTable}
use Rattle.sql_types.specs.declared.statement.CreateIndex.{CreateIndex}
use Rattle.sql_types.specs.declared.statement.Select.{Select}
use Rattle.sql_types.specs.declared.table.TableDef.{TableDef}
use Rattle.sql_types.specs.declared.table.IndexDef.{IndexDef}
use Rattle.sql_types.specs.declared.version.Table.{Table}
use Rattle.sql_types.specs.declared.version.Version.{Version}
use Rattle.spec_model.specs.Refusals.{Checked}
use Rattle.spec_model.specs.Lists.{numbered}
use Rattle.spec_model.specs.Rows.{Row, stored_row}
use Rattle.spec_model.specs.Keys.{version_key}
use Rattle.spec_model.specs.Changes.{Change, changed_all}
use Rattle.spec_model.specs.Catalog.{Defs, NamedPart, Tables, defs_of, versions_of, changed_table}
use Rattle.spec_model.specs.Checks.{row_statement_check}
use Rattle.spec_model.specs.Query.{query_check}
use Rattle.spec_model.specs.SystemTables.{tables_id, columns_id, tables_columns, columns_columns, table_row, column_row, column_rows, index_row, index_rows}
use Rattle.spec_model.specs.Create.{create_check, index_check}
use Rattle.spec_model.specs.Alter.{Altered, alteration, table_drop}
use Rattle.spec_model.specs.Effect.{query_rows, table_start, column_starts, index_starts}
use Rattle.spec_model.specs.ChangeSets.{TableChange, in_table, changed_from, select_change_set, query_change_set, create_table_change_set, create_index_change_set, altered_change_set, change_set}
use Rattle.spec_model.specs.Agreement.{IdsFrom}
use Rattle.law_frame.proofs.ChangeSets.{in_one_table}
use Rattle.law_journal.specs.Fits.{Fits}
use Rattle.law_journal.specs.Fine.{key_in, OfTable, AllFine}
use Rattle.law_journal.specs.Kept.{Kept}
use Rattle.law_journal.specs.Described.{IsTableKey, IsColumnKey, InRange, Described}
use Rattle.law_journal.proofs.Altered.{of_def, by_alter, by_drop}
use Rattle.law_journal.proofs.Entering.{starts_of, Enters, with_its_versions, alter_enters, drop_enters}
use Rattle.law_journal.proofs.Created.{Created, created, Indexed, indexed}
use Rattle.law_journal.proofs.DefLists.{no_items, ListedOnce, is_listed_once}
use Rattle.law_journal.proofs.Here.{AllHere, AllNew, starts_fine}
use Rattle.law_journal.proofs.Lift.{of_weaker, of_other, lift, fine_append, found_table, change_fine}
use Rattle.law_journal.proofs.NumberKeys.{column_key, index_key}
use Rattle.law_journal.proofs.SystemKeys.{table_row_new, rows_new, column_key_at}
use Rattle.law_journal.proofs.SystemRows.{IsSmall, table_row_fits, column_row_fits, index_row_fits}

-- ---- what the system tables are about

abbrev pub TablesAbout : Defs → Table → Type 0
TablesAbout ds t = (t.def.columns ≡ tables_columns) × AllByRecursion (λ v. IsTableKey ds (version_key tables_columns v)) t.versions

abbrev pub ColumnsAbout : Defs → Table → Type 0
ColumnsAbout ds t = (t.def.columns ≡ columns_columns) × AllByRecursion (λ v. IsColumnKey ds (version_key columns_columns v)) t.versions

pub record DescribedBy (ds : Defs) (T : Tables) : Type 0 where
  pub of_tables : OfTable tables_id (TablesAbout ds) T
  pub of_columns : OfTable columns_id (ColumnsAbout ds) T
  pub few : AllByRecursion (λ (def : TableDef). length def.columns ≤ 64) ds
  pub types : AllByRecursion InRange ds
  pub count : length ds ≤ 34

pub described_by : (ds : Defs) (T : Tables) → defs_of T ≡ ds → DescribedBy ds T → Described T
described_by ds T e h =
    let k : DescribedBy (defs_of T) T = subst (λ (xs : Defs). DescribedBy xs T) (sym e) h in
    record { of_tables = k.of_tables; of_columns = k.of_columns; few = k.few; types = k.types; count = k.count }

-- ---- rows of a table

columns_fit : (id n : ℕ) (cs : List ColumnDef) → id < 2147483648 → n + length cs < 2147483648 → AllByRecursion IsSmall cs → AllByRecursion (λ r. Fits columns_columns (stored_row columns_columns r)) (map (column_row id) (numbered n cs))
columns_fit id n [] small lt h = tt
columns_fit id n (c ∷ cs) small lt h = (column_row_fits id n c small (omega (arith, lt)) h.0, columns_fit id (n + 1) cs small (omega (arith, lt)) h.1)

ordinals_fit : (id g n : ℕ) (name : List ℕ) (os : List ℕ) (most : ℕ) → id < 2147483648 → 1000 * g + n + length os < 2147483648 → length name ≤ 128 → most < 2147483648 → AllByRecursion (λ o. o ≤ most) os
    → AllByRecursion (λ r. Fits columns_columns (stored_row columns_columns r)) (map (index_row id g name) (numbered n os))
ordinals_fit id g n name [] most small lt short low h = tt
ordinals_fit id g n name (o ∷ os) most small lt short low h =
    (index_row_fits id g name n o small (omega (arith, lt)) short (omega (arith, h.0, low)), ordinals_fit id g (n + 1) name os most small (omega (arith, lt)) short low h.1)

pub own_column_key : (id : ℕ) (c : ℕ × ColumnDef) → key_in columns_columns (stored_row columns_columns (column_row id c)) ≡ column_key_at id (0 + c.0)
own_column_key id c = column_key id c ∙ ap (column_key_at id) (omega arith)

module _ (place : ℕ → ℕ) (tx : ℕ) where
  -- ---- CREATE TABLE

  first_rows : (seq : ℕ) (T : Tables) (def : TableDef) → Described T → Created (defs_of T) def → OfTable tables_id (λ t. AllHere t.def.columns tx seq (table_start def) t.versions) T
  first_rows seq T def d c =
      of_weaker tables_id (TablesAbout (defs_of T)) (λ t. AllHere t.def.columns tx seq (table_start def) t.versions) T
      (λ t h. subst (λ (cs : List ColumnDef). AllHere cs tx seq (table_start def) t.versions) (sym h.0)
      (starts_fine tables_columns tx seq (table_row def ∷ []) t.versions
      (table_row_new (defs_of T) def t.versions (omega (arith, c.id)) (table_row_fits def (omega (arith, c.id, c.room)) c.name c.history c.view) h.1))) d.of_tables

  second_rows : (seq : ℕ) (T : Tables) (def : TableDef) → IdsFrom 1 (defs_of T) → Described T → Created (defs_of T) def → OfTable columns_id (λ t. AllHere t.def.columns tx seq (column_starts (column_rows def)) t.versions) T
  unfolding column_rows
  second_rows seq T def ids d c =
      of_weaker columns_id (ColumnsAbout (defs_of T)) (λ t. AllHere t.def.columns tx seq (column_starts (column_rows def)) t.versions) T
      (λ t h. subst (λ (cs : List ColumnDef). AllHere cs tx seq (column_starts (column_rows def)) t.versions) (sym h.0)
      (starts_fine columns_columns tx seq (column_rows def) t.versions
      (rows_new (defs_of T) def.id (column_row def.id) 0 (own_column_key def.id) 1 def.columns t.versions (omega (arith, no_items 1 def.id (defs_of T) ids (omega (arith, c.id))))
      (columns_fit def.id 1 def.columns (omega (arith, c.id, c.room)) (omega (arith, c.count)) c.columns) h.1))) d.of_columns

  pub after_first : (seq : ℕ) (T : Tables) (def : TableDef) → changed_from tx seq (in_table tables_id (table_start def)) T ≡ changed_table tables_id (changed_all tx seq (table_start def)) T
  after_first seq T def = in_one_table tx seq tables_id (table_start def) T

  table_fine : (seq : ℕ) (T : Tables) (c : CreateTable) (m : Checked TableDef) → Kept place tx seq T → Described T → create_check (defs_of T) c ≡ m → AllFine tx seq (create_table_change_set m).changes T
  table_fine seq T c (Err e) k d is = tt
  table_fine seq T c (Ok def) k d is =
      let f : Created (defs_of T) def = created (defs_of T) c def is in
      let cs : List TableChange = in_table tables_id (table_start def) in
      let next : ℕ = seq + length cs in
      fine_append tx seq cs (in_table columns_id (column_starts (column_rows def))) T
      (lift tx seq tables_id (table_start def) T (first_rows seq T def d f))
      (lift tx next columns_id (column_starts (column_rows def)) (changed_from tx seq cs T)
      (subst (λ (U : Tables). OfTable columns_id (λ t. AllHere t.def.columns tx next (column_starts (column_rows def)) t.versions) U) (sym (after_first seq T def))
      (of_other columns_id tables_id (λ t. AllHere t.def.columns tx next (column_starts (column_rows def)) t.versions) (changed_all tx seq (table_start def)) T (λ e. cc) (second_rows next T def k.sound.ids d f))))

  -- ---- CREATE INDEX

  pub has_indexed_table : (T : Tables) (x : TableDef × IndexDef) → IdsFrom 1 (defs_of T) → Indexed (defs_of T) x → OfTable x.0.id (λ t. t.def ≡ x.0) T
  has_indexed_table T x ids i =
      let f = (found_table 1 T i.table i.found ids i.by_name).there in
      let there : OfTable x.0.id (λ t. (t.def ≡ x.0) × (t.versions ≡ versions_of T x.0.id)) T = subst (λ (d : TableDef). OfTable d.id (λ t. (t.def ≡ d) × (t.versions ≡ versions_of T d.id)) T) i.is f in
      of_weaker x.0.id (λ t. (t.def ≡ x.0) × (t.versions ≡ versions_of T x.0.id)) (λ t. t.def ≡ x.0) T (λ t h. h.0) there

  pub few_columns : (T : Tables) (x : TableDef) → Described T → OfTable x.id (λ t. t.def ≡ x) T → length x.columns ≤ 64
  few_columns T x d o = of_def (λ def. length def.columns ≤ 64) T x d.few o

  part_rows : (seq : ℕ) (T : Tables) (x : TableDef × IndexDef) → IdsFrom 1 (defs_of T) → Described T → Indexed (defs_of T) x → OfTable columns_id (λ t. AllHere t.def.columns tx seq (index_starts x.0 x.1) t.versions) T
  unfolding index_rows
  part_rows seq T x ids d i =
      let there = has_indexed_table T x ids i in
      let s : ListedOnce 1 x.0 T = is_listed_once 1 x.0 T ids there in
      let g : ℕ = length x.0.indexes + 1 in
      of_weaker columns_id (ColumnsAbout (defs_of T)) (λ t. AllHere t.def.columns tx seq (index_starts x.0 x.1) t.versions) T
      (λ t h. subst (λ (cs : List ColumnDef). AllHere cs tx seq (index_starts x.0 x.1) t.versions) (sym h.0)
      (starts_fine columns_columns tx seq (index_rows x.0.id g x.1) t.versions
      (rows_new (defs_of T) x.0.id (index_row x.0.id g x.1.name) (1000 * g) (index_key x.0.id g x.1.name) 1 x.1.ordinals t.versions (omega (arith, s.items))
      (ordinals_fit x.0.id g 1 x.1.name x.1.ordinals (length x.0.columns) (omega (arith, s.to, d.count)) (omega (arith, i.indexes, i.count)) i.name (omega (arith, few_columns T x.0 d there)) i.ordinals) h.1))) d.of_columns

  index_fine : (seq : ℕ) (T : Tables) (c : CreateIndex) (m : Checked (TableDef × IndexDef)) → Kept place tx seq T → Described T → index_check (defs_of T) c ≡ m → AllFine tx seq (create_index_change_set m).changes T
  index_fine seq T c (Err e) k d is = tt
  index_fine seq T c (Ok x) k d is = lift tx seq columns_id (index_starts x.0 x.1) T (part_rows seq T x k.sound.ids d (indexed (defs_of T) c x is))

  -- ---- ALTER TABLE and DROP TABLE

  -- rows that are new among a table's versions
  entered_fine : (seq id : ℕ) (columns : List ColumnDef) (Q : Table → Type 0) (cs : List Change) (rows : List Row) (T : Tables) → IdsFrom 1 (defs_of T) → cs ≡ starts_of columns rows → AllNew columns rows (versions_of T id)
      → OfTable id (λ t. (t.def.columns ≡ columns) × Q t) T → OfTable id (λ t. AllHere t.def.columns tx seq cs t.versions) T
  entered_fine seq id columns Q cs rows T ids are new o =
      let here : AllHere columns tx seq cs (versions_of T id) = subst (λ (xs : List Change). AllHere columns tx seq xs (versions_of T id)) (sym are) (starts_fine columns tx seq rows (versions_of T id) new) in
      of_weaker id (λ t. ((t.def.columns ≡ columns) × Q t) × (t.versions ≡ versions_of T id)) (λ t. AllHere t.def.columns tx seq cs t.versions) T
      (λ t h. subst (λ (vs : List Version). AllHere t.def.columns tx seq cs vs) (sym h.1) (subst (λ (ds : List ColumnDef). AllHere ds tx seq cs (versions_of T id)) (sym h.0.0) here))
      (with_its_versions id (λ t. (t.def.columns ≡ columns) × Q t) T ids o)

  altered_fine : (seq : ℕ) (T : Tables) (m : Checked Altered) → IdsFrom 1 (defs_of T) → Described T → ((a : Altered) → m ≡ Ok a → Enters T a) → AllFine tx seq (altered_change_set m).changes T
  altered_fine seq T (Err e) ids d f = tt
  altered_fine seq T (Ok a) ids d f =
      let g : Enters T a = f a refl in
      let cs : List TableChange = in_table tables_id a.first in
      let next : ℕ = seq + length cs in
      let after : changed_from tx seq cs T ≡ changed_table tables_id (changed_all tx seq a.first) T = in_one_table tx seq tables_id a.first T in
      fine_append tx seq cs (in_table columns_id a.second) T
      (lift tx seq tables_id a.first T (entered_fine seq tables_id tables_columns (λ t. AllByRecursion (λ v. IsTableKey (defs_of T) (version_key tables_columns v)) t.versions) a.first g.first_rows T ids g.first_are g.first_new d.of_tables))
      (lift tx next columns_id a.second (changed_from tx seq cs T)
      (subst (λ (U : Tables). OfTable columns_id (λ t. AllHere t.def.columns tx next a.second t.versions) U) (sym after)
      (of_other columns_id tables_id (λ t. AllHere t.def.columns tx next a.second t.versions) (changed_all tx seq a.first) T (λ e. cc)
      (entered_fine next columns_id columns_columns (λ t. AllByRecursion (λ v. IsColumnKey (defs_of T) (version_key columns_columns v)) t.versions) a.second g.second_rows T ids g.second_are g.second_new d.of_columns))))

  pub altering_enters : (T : Tables) (y : Alter) → IdsFrom 1 (defs_of T) → Described T → (a : Altered) → alteration (defs_of T) (versions_of T tables_id) (versions_of T columns_id) y ≡ Ok a → Enters T a
  altering_enters T y ids d a e = by_alter (defs_of T) (versions_of T tables_id) (versions_of T columns_id) (Enters T) y a e (alter_enters T ids d y)

  pub dropping_enters : (T : Tables) (name : List ℕ) → IdsFrom 1 (defs_of T) → Described T → (a : Altered) → table_drop (defs_of T) (versions_of T tables_id) (versions_of T columns_id) name ≡ Ok a → Enters T a
  dropping_enters T name ids d a e = by_drop (defs_of T) (versions_of T tables_id) (versions_of T columns_id) (Enters T) name a e (drop_enters T ids d name)

  -- ---- all statements

  rows_change_nothing : (seq : ℕ) (T : Tables) (m : Checked (List Row)) → AllFine tx seq (select_change_set m).changes T
  rows_change_nothing seq T (Ok rows) = tt
  rows_change_nothing seq T (Err e) = tt

  query_changes_nothing : (seq : ℕ) (T U : Tables) (q : Select) (m : Checked NamedPart) → AllFine tx seq (query_change_set U q m).changes T
  query_changes_nothing seq T U q (Ok n) = rows_change_nothing seq T (query_rows q n (versions_of U n.0.id))
  query_changes_nothing seq T U q (Err e) = tt

  pub change_set_fine : (seq : ℕ) (T : Tables) (stmt : Stmt) → Kept place tx seq T → Described T → AllFine tx seq (change_set T stmt).changes T
  unfolding change_set
  change_set_fine seq T (s.Create c) k d = table_fine seq T c (create_check (defs_of T) c) k d refl
  change_set_fine seq T (s.Index c) k d = index_fine seq T c (index_check (defs_of T) c) k d refl
  change_set_fine seq T (s.Alter y) k d = altered_fine seq T (alteration (defs_of T) (versions_of T tables_id) (versions_of T columns_id) y) k.sound.ids d (altering_enters T y k.sound.ids d)
  change_set_fine seq T (s.Drop name) k d = altered_fine seq T (table_drop (defs_of T) (versions_of T tables_id) (versions_of T columns_id) name) k.sound.ids d (dropping_enters T name k.sound.ids d)
  change_set_fine seq T (s.Change stmt) k d = change_fine place tx seq T stmt (row_statement_check (defs_of T) stmt) k refl
  change_set_fine seq T (s.Select q) k d = query_changes_nothing seq T T q (query_check (defs_of T) q)
  change_set_fine seq T s.Begin k d = tt
  change_set_fine seq T s.Commit k d = tt
  change_set_fine seq T (s.Save name) k d = tt
  change_set_fine seq T (s.Rollback name) k d = tt
  change_set_fine seq T s.Digest k d = tt
  change_set_fine seq T s.Image k d = tt
