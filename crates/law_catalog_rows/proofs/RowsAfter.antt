-- Each statement keeps that the rows of the system tables spell the definitions.
use Rattle.std.proofs.Common.{◌≡◌, ◌≤◌, ◌<◌, ℕ, suc, ◌+◌, inl, inr, refl, sym, ap, subst, ◌∙◌, true, false, List, [], ◌∷◌, ◌++◌, map, length, Ok, Err, arith}
use Rattle.std.proofs.lemmas.Bool.{eq-eqb, ne_eqb, leb-true, leb-false}
use Rattle.std.specs.Prelude.{◌&&◌, nat_le, nat_lt}
use Rattle.std.specs.List.{AllByRecursion}
use Rattle.std.specs.List.Sorted.{IsPermutation}
use Rattle.sql_value.specs.declared.column.ColumnDef.{ColumnDef}
use Rattle.sql_value.specs.declared.column.TableKind.{TableKind}
use Rattle.sql_value.specs.declared.column.TableKind.TheVariants.{AppendOnly, Updatable}
use Rattle.sql_value.specs.declared.value.Value.TheVariants.{Text}
use Rattle.sql_types.specs.declared.statement.Alter.{Alter}
use Rattle.sql_types.specs.declared.statement.Alter.TheVariants.{Add, DropColumn}
use Rattle.sql_types.specs.declared.statement.Stmt.{Stmt}
use Rattle.sql_types.specs.declared.statement.Stmt.TheVariants as s
use Rattle.sql_types.specs.declared.statement.RowStmt.{RowStmt}
use Rattle.sql_types.specs.declared.statement.CreateTable.{CreateTable}
use Rattle.sql_types.specs.declared.statement.CreateIndex.{CreateIndex}
use Rattle.sql_types.specs.declared.statement.Select.{Select}
use Rattle.sql_types.specs.declared.table.TableDef.{TableDef}
use Rattle.sql_types.specs.declared.table.IndexDef.{IndexDef}
use Rattle.sql_types.specs.declared.version.Table.{Table}
use Rattle.sql_types.specs.declared.version.Version.{Version}
use Rattle.spec_model.specs.Refusals.{Checked}
use Rattle.spec_model.specs.Limits.{max_columns}
use Rattle.spec_model.specs.LiveColumns.{is_dropped}
use Rattle.spec_model.specs.Lists.{is_among, numbered, rise_within}
use Rattle.spec_model.specs.Rows.{Row, number, stored_row}
use Rattle.spec_model.specs.Changes.{Change, Starts, Changes, changed_all, row_changes}
use Rattle.spec_model.specs.Catalog.{Defs, NamedPart, Tables, defs_of, versions_of, changed_table}
use Rattle.spec_model.specs.Checks.{row_statement_check}
use Rattle.spec_model.specs.Query.{query_check}
use Rattle.spec_model.specs.Alter.{added_to, dropped_from, dropped_table, WithColumn, alter_check, drop_check, next_change, Altered, altered_table, gone_table, alteration, table_drop}
use Rattle.spec_model.specs.SystemTables.{tables_id, columns_id, tables_columns, columns_columns, kind_code, history_value, table_row, column_row, column_rows, index_row, index_rows, kind_in_row, changed_table_row, changed_column_row, first_tables}
use Rattle.spec_model.specs.Create.{table_def, next_id, create_check, index_check, with_index}
use Rattle.spec_model.specs.Effect.{effect, done, row_effect, shown, query_rows, query_effect, table_start, column_starts, table_effect, with_system_rows, redefined, index_effect, altered_effect}
use Rattle.spec_model.specs.Agreement.{IdsFrom}
use Rattle.law_frame.proofs.Alls.{all_weaker}
use Rattle.law_frame.proofs.Alterations.{Stands, Added, added, ColumnDropped, column_dropped, TableDropped, table_dropped}
use Rattle.law_frame.proofs.BaseTables.{found_is_users, users_table}
use Rattle.law_frame.proofs.Definitions.{same_defs}
use Rattle.law_frame.proofs.SameKeys.{and_true}
use Rattle.law_journal.specs.AppendOnly.{AllKeepRows}
use Rattle.law_journal.specs.Fine.{OfTable}
use Rattle.law_journal.proofs.Altered.{by_alter, by_drop}
use Rattle.law_journal.proofs.Created.{Created, created, indexed}
use Rattle.law_journal.proofs.DefLists.{defs_append, redef, defs_redefined}
use Rattle.law_journal.proofs.Lift.{found_table, of_weaker}
use Rattle.law_journal.proofs.Statements.{has_indexed_table}
use Rattle.law_catalog_rows.specs.Encoded.{live_rows, IsAmong, EncodeDef, EncodeEach, HaveTheirRows}
use Rattle.law_catalog_rows.specs.Formed.{FormedIndex, Formed, AllFormed}
use Rattle.law_catalog_rows.proofs.Forms.{new_def, indexed_is_users}
use Rattle.law_catalog_rows.proofs.About.{StartsWith, table_starts}
use Rattle.law_catalog_rows.proofs.ChangedTables.{system_changed, users_changed}
use Rattle.law_catalog_rows.proofs.Defs.{of_among}
use Rattle.law_catalog_rows.proofs.EachEncoded.{each_in_any_order, with_new, with_other}
use Rattle.law_catalog_rows.proofs.LiveRows.{IsWhole, starts_rows}
use Rattle.law_catalog_rows.proofs.NewIndex.{index_rows_start, new_index_encoded}
use Rattle.law_catalog_rows.proofs.NewTable.{column_rows_start, new_table_encoded}
use Rattle.law_catalog_rows.proofs.NextRow.{next_change_in, next_of_rows, with_added_encoded, with_dropped_encoded, dropped_encoded}

-- ---- rows are kept as they are

made_whole : (id change : ℕ) (name : List ℕ) (code : ℕ) (kind : TableKind) (history view : List ℕ)
    → IsWhole tables_columns (number id ∷ number change ∷ Text name ∷ number code ∷ history_value kind history ∷ Text view ∷ [])
made_whole id change name code AppendOnly history view = refl
made_whole id change name code Updatable history view = refl

pub table_row_whole : (def : TableDef) → IsWhole tables_columns (table_row def)
unfolding table_row
table_row_whole def = made_whole def.id 0 def.name (kind_code def.kind) def.kind def.history def.view

pub changed_table_row_whole : (change : ℕ) (def : TableDef) → IsWhole tables_columns (changed_table_row change def)
unfolding changed_table_row
changed_table_row_whole change def = made_whole def.id change def.name (kind_in_row def) def.kind def.history def.view

pub changed_column_row_whole : (change : ℕ) (def : TableDef) (c : ℕ × ColumnDef) → IsWhole columns_columns (changed_column_row change def c)
unfolding changed_column_row
changed_column_row_whole change def c = refl

columns_whole : (id n : ℕ) (cs : List ColumnDef) → AllByRecursion (IsWhole columns_columns) (map (column_row id) (numbered n cs))
columns_whole id n [] = tt
columns_whole id n (c ∷ cs) = (refl, columns_whole id (n + 1) cs)

parts_whole : (id g n : ℕ) (name : List ℕ) (os : List ℕ) → AllByRecursion (IsWhole columns_columns) (map (index_row id g name) (numbered n os))
parts_whole id g n name [] = tt
parts_whole id g n name (o ∷ os) = (refl, parts_whole id g (n + 1) name os)

pub column_rows_whole : (def : TableDef) → AllByRecursion (IsWhole columns_columns) (column_rows def)
unfolding column_rows
column_rows_whole def = columns_whole def.id 1 def.columns

pub index_rows_whole : (def : TableDef) (i : IndexDef) → AllByRecursion (IsWhole columns_columns) (index_rows def.id (length def.indexes + 1) i)
unfolding index_rows
index_rows_whole def i = parts_whole def.id (length def.indexes + 1) 1 i.name i.ordinals

-- ---- rows of changes are about their table

changed_table_row_starts : (change : ℕ) (def : TableDef) → StartsWith def.id (changed_table_row change def)
unfolding changed_table_row
changed_table_row_starts change def = (_, refl)

changed_column_row_starts : (change : ℕ) (def : TableDef) (c : ℕ × ColumnDef) → StartsWith def.id (changed_column_row change def c)
unfolding changed_column_row
changed_column_row_starts change def c = (_, refl)

-- ---- of a new table nothing was dropped

record NothingDropped (def : TableDef) : Type 0 where
  pub stands : def.gone ≡ false
  pub whole : def.dropped ≡ []

new_is_whole : (id : ℕ) (c : CreateTable) → NothingDropped (table_def id c)
unfolding table_def
new_is_whole id c = record { stands = refl; whole = refl }

nothing_dropped : (defs : Defs) (c : CreateTable) (def : TableDef) → create_check defs c ≡ Ok def → NothingDropped def
nothing_dropped defs c def e = subst NothingDropped (sym (new_def defs c def e).is) (new_is_whole (next_id defs) c)

-- ---- an added column's ordinal is no dropped one's

none_above : (last limit : ℕ) (ns : List ℕ) → rise_within last limit ns ≡ true → is_among ns (suc limit) ≡ false
none_above last limit [] e = refl
none_above last limit (n ∷ ns) e =
    let p = and_true (nat_lt last n && nat_le n limit) (rise_within n limit ns) e in
    let le : n ≤ limit = leb-true n limit (and_true (nat_lt last n) (nat_le n limit) p.0).1 in
    rw (ne_eqb n (suc limit) (λ same. absurd (omega (arith, le, same)))) (none_above n limit ns p.1)

pub next_is_live : (def : TableDef) → Formed def → is_dropped def (suc (length def.columns)) ≡ false
next_is_live def f = none_above 0 (length def.columns) def.dropped (and_true (rise_within 0 (length def.columns) def.dropped) _ f.dropped).0

-- ---- statements over the two system tables and the others

of_users : (id : ℕ) (P : Table → Type 0) (a b : Table) (ts : Tables) → IdsFrom 1 (defs_of (a ∷ b ∷ ts)) → 2 < id → OfTable id P (a ∷ b ∷ ts) → OfTable id P ts
of_users id P a b ts ids lt o = elim o [
  | inl p ↦ absurd (omega (arith, p.0, ids.0, lt))
  | inr q ↦ elim q [ inl p ↦ absurd (omega (arith, p.0, ids.1.0, lt)) | inr r ↦ r ]
]

among_them : (id : ℕ) (def : TableDef) (T : Tables) → OfTable id (λ t. t.def ≡ def) T → IsAmong def (defs_of T)
among_them id def [] o = absurd o
among_them id def (t ∷ ts) o = elim o [ inl p ↦ inl p.1 | inr q ↦ inr (among_them id def ts q) ]

module _ (tx seq : ℕ) (a b : Table) (ts : Tables) (ids : IdsFrom 1 (defs_of (a ∷ b ∷ ts))) (formed : AllFormed (defs_of (a ∷ b ∷ ts))) (kept : AllKeepRows (a ∷ b ∷ ts))
    (h : EncodeEach (live_rows a.versions) (live_rows b.versions) (defs_of ts)) where
  abbrev T : Tables
  T = a ∷ b ∷ ts

  -- ---- INSERT, UPDATE and DELETE

  users_keeps_rows : (id : ℕ) (f : List Version → List Version) → 2 < id → HaveTheirRows (changed_table id f T)
  users_keeps_rows id f lt =
      subst HaveTheirRows (sym (users_changed a b ts ids id f lt))
      (subst (EncodeEach (live_rows a.versions) (live_rows b.versions)) (sym (same_defs id f ts)) h)

  done_keeps_rows : (id : ℕ) (m : Checked Changes) → 2 < id → HaveTheirRows (done T tx seq id m).tables
  done_keeps_rows id (Ok c) lt = users_keeps_rows id (changed_all tx seq c.0) lt
  done_keeps_rows id (Err e) lt = h

  rows_keeps_rows : (stmt : RowStmt) (m : Checked TableDef) → row_statement_check (defs_of T) stmt ≡ m → HaveTheirRows (row_effect T tx seq stmt m).tables
  rows_keeps_rows stmt (Ok def) e = done_keeps_rows def.id (row_changes def (versions_of T def.id) stmt) (users_table (defs_of T) stmt def e)
  rows_keeps_rows stmt (Err r) e = h

  -- ---- SELECT

  shown_keeps_rows : (m : Checked (List Row)) → HaveTheirRows (shown T seq m).tables
  shown_keeps_rows (Ok rows) = h
  shown_keeps_rows (Err e) = h

  query_keeps_rows : (q : Select) (m : Checked NamedPart) → HaveTheirRows (query_effect T seq q m).tables
  query_keeps_rows q (Ok n) = shown_keeps_rows (query_rows q n (versions_of T n.0.id))
  query_keeps_rows q (Err e) = h

  -- ---- CREATE TABLE

  table_keeps_rows : (c : CreateTable) (m : Checked TableDef) → create_check (defs_of T) c ≡ m → HaveTheirRows (table_effect T tx seq m).tables
  table_keeps_rows c (Err e) is = h
  table_keeps_rows c (Ok def) is =
      let f : Created (defs_of T) def = created (defs_of T) c def is in
      let new : Table = record { def = def; versions = [] } in
      let next : ℕ = seq + length (table_start def) in
      let V : List Version = changed_all tx seq (table_start def) a.versions in
      let W : List Version = changed_all tx next (column_starts (column_rows def)) b.versions in
      let one : IsPermutation (live_rows V) (table_row def ∷ live_rows a.versions) = starts_rows tables_columns tx seq (table_row def ∷ []) a.versions (table_row_whole def, tt) in
      let more : IsPermutation (live_rows W) (column_rows def ++ live_rows b.versions) = starts_rows columns_columns tx next (column_rows def) b.versions (column_rows_whole def) in
      let n : NothingDropped def = nothing_dropped (defs_of T) c def is in
      let id : def.id ≡ 3 + length (defs_of ts) = omega (arith, f.id) in
      let all : EncodeEach (live_rows V) (live_rows W) (defs_of ts ++ def ∷ []) =
      each_in_any_order (table_row def ∷ live_rows a.versions) (live_rows V) (column_rows def ++ live_rows b.versions) (live_rows W) one more (defs_of ts ++ def ∷ [])
      (with_new (live_rows a.versions) (live_rows b.versions) (defs_of ts) 3 ids.1.1 h def (table_row def ∷ []) (column_rows def) (table_starts def, tt) (column_rows_start def) id
      (new_table_encoded def n.stands n.whole f.indexes)) in
      subst (λ (U : Tables). HaveTheirRows (U ++ new ∷ [])) (sym (system_changed a b ts ids (changed_all tx seq (table_start def)) (changed_all tx next (column_starts (column_rows def)))))
      (subst (EncodeEach (live_rows V) (live_rows W)) (sym (defs_append ts new)) all)

  -- ---- CREATE INDEX

  formed_one : (def : TableDef) → IsAmong def (defs_of ts) → 2 < def.id → Formed def
  formed_one def among lt = of_among (λ d. 2 < d.id → Formed d) (defs_of ts) formed.each.1.1 def among lt

  -- a definition takes the place of that of a user's table, and rows that are about it start
  redefined_keeps_rows : (old def : TableDef) (tables items : List Row) → 2 < old.id → IsAmong old (defs_of ts) → def.id ≡ old.id
      → AllByRecursion (IsWhole tables_columns) tables → AllByRecursion (IsWhole columns_columns) items → AllByRecursion (StartsWith def.id) tables → AllByRecursion (StartsWith def.id) items
      → (EncodeDef (live_rows a.versions) (live_rows b.versions) old → EncodeDef (tables ++ live_rows a.versions) (items ++ live_rows b.versions) def)
      → HaveTheirRows (redefined def (with_system_rows tx seq (map (λ row. Starts (stored_row tables_columns row)) tables) (column_starts items) T))
  redefined_keeps_rows old def tables items lt among same t i t_starts i_starts e =
      let first : List Change = map (λ row. Starts (stored_row tables_columns row)) tables in
      let next : ℕ = seq + length first in
      let V : List Version = changed_all tx seq first a.versions in
      let W : List Version = changed_all tx next (column_starts items) b.versions in
      let ds : Defs = redef def (defs_of ts) in
      let all : EncodeEach (live_rows V) (live_rows W) ds =
      each_in_any_order (tables ++ live_rows a.versions) (live_rows V) (items ++ live_rows b.versions) (live_rows W)
      (starts_rows tables_columns tx seq tables a.versions t) (starts_rows columns_columns tx next items b.versions i) ds
      (with_other (live_rows a.versions) (live_rows b.versions) (defs_of ts) 3 ids.1.1 h def tables items t_starts i_starts old among same e) in
      subst (λ (U : Tables). HaveTheirRows (redefined def U)) (sym (system_changed a b ts ids (changed_all tx seq first) (changed_all tx next (column_starts items))))
      (rw (ne_eqb a.def.id def.id (λ e. absurd (omega (arith, e, ids.0, lt, same))), ne_eqb b.def.id def.id (λ e. absurd (omega (arith, e, ids.1.0, lt, same))))
      (subst (EncodeEach (live_rows V) (live_rows W)) (sym (defs_redefined def ts)) all))

  index_keeps_rows : (c : CreateIndex) (m : Checked (TableDef × IndexDef)) → index_check (defs_of T) c ≡ m → HaveTheirRows (index_effect T tx seq m).tables
  index_keeps_rows c (Err e) is = h
  index_keeps_rows c (Ok x) is =
      let lt : 2 < x.0.id = indexed_is_users (defs_of T) c x is in
      let def : TableDef = with_index x.0 x.1 in
      let there : OfTable x.0.id (λ t. t.def ≡ x.0) ts = of_users x.0.id (λ t. t.def ≡ x.0) a b ts ids lt (has_indexed_table (λ n. n) tx T x ids (indexed (defs_of T) c x is)) in
      let rows : List Row = index_rows x.0.id (length x.0.indexes + 1) x.1 in
      let among : IsAmong x.0 (defs_of ts) = among_them x.0.id x.0 ts there in
      let f : Formed x.0 = formed_one x.0 among lt in
      redefined_keeps_rows x.0 def [] rows lt among refl tt (index_rows_whole x.0 x.1) tt (index_rows_start x.0 x.1)
      (λ old. new_index_encoded (live_rows a.versions) (live_rows b.versions) x.0 x.1 f.count (all_weaker (FormedIndex (length x.0.columns)) (λ i. length i.ordinals ≤ 4) (λ i k. k.count) x.0.indexes f.indexes) old)

  -- ---- ALTER TABLE and DROP TABLE

  record Standing (old : TableDef) : Type 0 where
    users : 2 < old.id
    among : IsAmong old (defs_of ts)
    checked : Formed old

  standing : (name : List ℕ) (n : NamedPart) → Stands (defs_of T) name n → Standing n.0
  standing name n st =
      let lt : 2 < n.0.id = found_is_users (defs_of T) name n st.by_name st.base in
      let found = (found_table 1 T name n ids st.by_name).there in
      let there : OfTable n.0.id (λ t. t.def ≡ n.0) T = of_weaker n.0.id (λ t. (t.def ≡ n.0) × (t.versions ≡ versions_of T n.0.id)) (λ t. t.def ≡ n.0) T (λ t k. k.0) found in
      let among : IsAmong n.0 (defs_of ts) = among_them n.0.id n.0 ts (of_users n.0.id (λ t. t.def ≡ n.0) a b ts ids lt there) in
      record { users = lt; among = among; checked = formed_one n.0 among lt }

  -- the next change is that of the rows that stand
  first_versions : versions_of T tables_id ≡ a.versions
  first_versions = rw (eq-eqb a.def.id 1 ids.0) refl

  second_versions : versions_of T columns_id ≡ b.versions
  second_versions = rw (ne_eqb a.def.id 2 (λ e. absurd (omega (arith, e, ids.0))), eq-eqb b.def.id 2 ids.1.0) refl

  abbrev change_of_versions : ℕ → ℕ
  change_of_versions id = next_change id (versions_of T tables_id) (versions_of T columns_id)

  abbrev change_of_rows : ℕ → ℕ
  change_of_rows id = next_change_in id (live_rows a.versions) (live_rows b.versions)

  pub same_change : (id : ℕ) → change_of_versions id ≡ change_of_rows id
  same_change id =
      ap (λ (vs : List Version). next_change id vs (versions_of T columns_id)) first_versions ∙ ap (next_change id a.versions) second_versions
      ∙ next_of_rows id a.versions b.versions (kept.0 (ap (λ (d : TableDef). d.kind) formed.system.0)) (kept.1.0 (ap (λ (d : TableDef). d.kind) formed.system.1))

  abbrev After : Altered → Type 0
  After m = HaveTheirRows (altered_effect T tx seq (Ok m)).tables

  -- one row more in the second system table
  column_keeps_rows : (old : TableDef) → Standing old → (x : WithColumn) → x.0.id ≡ old.id
      → (EncodeDef (live_rows a.versions) (live_rows b.versions) old → EncodeDef (live_rows a.versions) (changed_column_row (change_of_rows old.id) x.0 x.1 ∷ live_rows b.versions) x.0)
      → After (altered_table (change_of_versions x.0.id) x)
  column_keeps_rows old st x same e =
      let change : ℕ = change_of_versions x.0.id in
      let is : change_of_rows old.id ≡ change = ap change_of_rows (sym same) ∙ sym (same_change x.0.id) in
      redefined_keeps_rows old x.0 [] (changed_column_row change x.0 x.1 ∷ []) st.users st.among same tt (changed_column_row_whole change x.0 x.1, tt) tt (changed_column_row_starts change x.0 x.1, tt)
      (λ k. subst (λ (n : ℕ). EncodeDef (live_rows a.versions) (changed_column_row n x.0 x.1 ∷ live_rows b.versions) x.0) is (e k))

  one_more : (def : TableDef) → 2 < def.id → 1 ≤ def.id
  one_more def lt = omega (arith, lt)

  alter_keeps : (y : Alter) (x : WithColumn) → alter_check (defs_of T) y ≡ Ok x → After (altered_table (change_of_versions x.0.id) x)
  alter_keeps (Add table c) x e =
      let p : Added (defs_of T) table c x = added (defs_of T) table c x e in
      let old : TableDef = p.found.0 in
      let st : Standing old = standing table p.found p.stands in
      let room : length old.columns ≤ 63 = (let lt : length old.columns < max_columns = leb-false max_columns (length old.columns) p.room in omega (arith, lt)) in
      subst (λ (z : WithColumn). After (altered_table (change_of_versions z.0.id) z)) (sym p.is)
      (column_keeps_rows old st (added_to old c) refl
      (λ k. with_added_encoded (live_rows a.versions) (live_rows b.versions) old (one_more old st.users) k c room (next_is_live old st.checked)))
  alter_keeps (DropColumn table name) x e =
      let p : ColumnDropped (defs_of T) table name x = column_dropped (defs_of T) table name x e in
      let old : TableDef = p.found.0 in
      let st : Standing old = standing table p.found p.stands in
      subst (λ (z : WithColumn). After (altered_table (change_of_versions z.0.id) z)) (sym p.is)
      (column_keeps_rows old st (dropped_from old p.column) refl
      (λ k. with_dropped_encoded (live_rows a.versions) (live_rows b.versions) old (one_more old st.users) k p.column st.checked.count p.live.at p.live.live p.in_no_key))

  drop_keeps : (name : List ℕ) (def : TableDef) → drop_check (defs_of T) name ≡ Ok def → After (gone_table (change_of_versions def.id) def)
  unfolding dropped_table
  drop_keeps name def e =
      let p : TableDropped (defs_of T) name def = table_dropped (defs_of T) name def e in
      let old : TableDef = p.found.0 in
      let st : Standing old = standing name p.found p.stands in
      let new : TableDef = dropped_table old in
      let change : ℕ = change_of_versions old.id in
      subst (λ (d : TableDef). After (gone_table (change_of_versions d.id) d)) (sym p.is)
      (redefined_keeps_rows old new (changed_table_row change new ∷ []) [] st.users st.among refl (changed_table_row_whole change new, tt) tt (changed_table_row_starts change new, tt) tt
      (λ k. subst (λ (n : ℕ). EncodeDef (changed_table_row n new ∷ live_rows a.versions) (live_rows b.versions) new) (sym (same_change old.id))
      (dropped_encoded (live_rows a.versions) (live_rows b.versions) old (one_more old st.users) k)))

  altered_keeps_rows : (m : Checked Altered) → ((x : Altered) → m ≡ Ok x → After x) → HaveTheirRows (altered_effect T tx seq m).tables
  altered_keeps_rows (Err e) f = h
  altered_keeps_rows (Ok x) f = f x refl

  alter_keeps_rows : (y : Alter) → HaveTheirRows (altered_effect T tx seq (alteration (defs_of T) (versions_of T tables_id) (versions_of T columns_id) y)).tables
  alter_keeps_rows y =
      altered_keeps_rows (alteration (defs_of T) (versions_of T tables_id) (versions_of T columns_id) y)
      (λ m e. by_alter (defs_of T) (versions_of T tables_id) (versions_of T columns_id) After y m e (alter_keeps y))

  drop_keeps_rows : (name : List ℕ) → HaveTheirRows (altered_effect T tx seq (table_drop (defs_of T) (versions_of T tables_id) (versions_of T columns_id) name)).tables
  drop_keeps_rows name =
      altered_keeps_rows (table_drop (defs_of T) (versions_of T tables_id) (versions_of T columns_id) name)
      (λ m e. by_drop (defs_of T) (versions_of T tables_id) (versions_of T columns_id) After name m e (drop_keeps name))

  -- ---- all statements

  each_keeps_rows : (stmt : Stmt) → HaveTheirRows (effect T tx seq stmt).tables
  unfolding effect
  each_keeps_rows (s.Create c) = table_keeps_rows c (create_check (defs_of T) c) refl
  each_keeps_rows (s.Index c) = index_keeps_rows c (index_check (defs_of T) c) refl
  each_keeps_rows (s.Alter y) = alter_keeps_rows y
  each_keeps_rows (s.Drop name) = drop_keeps_rows name
  each_keeps_rows (s.Change stmt) = rows_keeps_rows stmt (row_statement_check (defs_of T) stmt) refl
  each_keeps_rows (s.Select q) = query_keeps_rows q (query_check (defs_of T) q)
  each_keeps_rows s.Begin = h
  each_keeps_rows s.Commit = h
  each_keeps_rows (s.Save name) = h
  each_keeps_rows (s.Rollback name) = h
  each_keeps_rows s.Digest = h
  each_keeps_rows s.Image = h

pub statement_keeps_rows : (tx seq : ℕ) (T : Tables) (stmt : Stmt) → IdsFrom 1 (defs_of T) → AllFormed (defs_of T) → AllKeepRows T → HaveTheirRows T
    → HaveTheirRows (effect T tx seq stmt).tables
statement_keeps_rows tx seq [] stmt ids f k h = absurd h
statement_keeps_rows tx seq (a ∷ []) stmt ids f k h = absurd h
statement_keeps_rows tx seq (a ∷ b ∷ ts) stmt ids f k h = each_keeps_rows tx seq a b ts ids f k h stmt

pub first_has_rows : HaveTheirRows first_tables
unfolding first_tables
first_has_rows = record { one = λ def among. absurd among; others = λ id ne. (refl, refl) }
