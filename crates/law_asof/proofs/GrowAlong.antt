-- The definitions to which the first items of a legal journal lead grow under the items that follow.
use Rattle.std.proofs.Common.{◌≡◌, ℕ, refl, sym, ap, subst, ◌∙◌, Bool, true, false, List, [], ◌∷◌, ◌++◌, map, take, drop, Ok, Err}
use Rattle.std.proofs.lemmas.List.{take-append-drop}
use Rattle.sql_types.specs.declared.journal.JournalItem.{JournalItem}
use Rattle.sql_types.specs.declared.journal.JournalItem.TheVariants.{Tx, Close}
use Rattle.sql_types.specs.declared.statement.Alter.{Alter}
use Rattle.sql_types.specs.declared.statement.Alter.TheVariants.{Add, DropColumn}
use Rattle.sql_types.specs.declared.statement.CreateIndex.{CreateIndex}
use Rattle.sql_types.specs.declared.statement.Stmt.{Stmt}
use Rattle.sql_types.specs.declared.statement.Stmt.TheVariants as s
use Rattle.sql_types.specs.declared.table.IndexDef.{IndexDef}
use Rattle.sql_types.specs.declared.table.TableDef.{TableDef}
use Rattle.spec_model.specs.Agreement.{IdsFrom}
use Rattle.spec_model.specs.Alter.{Altered, WithColumn, alter_check, alteration, drop_check, dropped_table, table_drop, with_added, with_dropped}
use Rattle.spec_model.specs.Catalog.{Defs, Tables, defs_of, versions_of}
use Rattle.spec_model.specs.Create.{create_check, index_check, with_index}
use Rattle.spec_model.specs.Effect.{altered_effect, column_starts, effect, index_effect, index_starts, table_effect, table_start, with_system_rows}
use Rattle.spec_model.specs.Journals.{after_item, upto, serial_from, serial, IsNext, IsLegalFrom, IsLegal}
use Rattle.spec_model.specs.Reach.{creates}
use Rattle.spec_model.specs.Refusals.{Checked}
use Rattle.spec_model.specs.Runs.{Sound}
use Rattle.spec_model.specs.Script.{Reading}
use Rattle.spec_model.specs.SystemTables.{column_rows, columns_id, first_tables, tables_id}
use Rattle.law_frame.proofs.Alterations.{Added, ColumnDropped, TableDropped, added, column_dropped, table_dropped}
use Rattle.law_frame.proofs.Definitions.{defs_after}
use Rattle.law_frame.proofs.LegalSound.{legal_sound}
use Rattle.law_frame.proofs.SoundStatements.{statement_sound}
use Rattle.law_frame.proofs.WholeScripts.{whole_script}
use Rattle.law_journal.specs.Fine.{OfTable}
use Rattle.law_journal.proofs.Altered.{by_alter, by_drop}
use Rattle.law_journal.proofs.Created.{Indexed, indexed}
use Rattle.law_journal.proofs.DefLists.{defs_append, defs_redefined, is_listed_once, redef}
use Rattle.law_journal.proofs.Statements.{has_indexed_table}
use Rattle.spec_ledger.proofs.Adding.{serial_more}
use Rattle.law_accepts.proofs.Along.{more_legal}
use Rattle.law_catalog_rows.proofs.FormedAfter.{redefined_defs, with_system_defs}
use Rattle.law_catalog_rows.proofs.FormsAltered.{there}
use Rattle.law_asof.proofs.Grown.{Next, GrowAll, next_index, next_added, next_dropped, next_gone, all_grow_themselves, grow_with_new, grow_redefined}
use Rattle.law_asof.proofs.Later.{append_serial, parted, upto_is_cut}

-- ---- a statement

module _ (os : Defs) (tx seq : ℕ) (T : Tables) (ids : IdsFrom 1 (defs_of T)) (g : GrowAll os (defs_of T)) where
  in_place : (x def : TableDef) → OfTable x.id (λ t. t.def ≡ x) T → Next x def → GrowAll os (redef def (defs_of T))
  in_place x def o next = grow_redefined x def next os (defs_of T) (is_listed_once 1 x T ids o).only g

  table_grows : (m : Checked TableDef) → GrowAll os (defs_of (table_effect T tx seq m).tables)
  table_grows (Err e) = g
  table_grows (Ok def) =
      let U : Tables = with_system_rows tx seq (table_start def) (column_starts (column_rows def)) T in
      subst (GrowAll os) (sym (defs_append U (record { def = def; versions = [] }) ∙ ap (λ (ds : Defs). ds ++ def ∷ []) (with_system_defs tx seq T (table_start def) (column_starts (column_rows def)))))
      (grow_with_new os (defs_of T) def g)

  index_grows : (c : CreateIndex) (m : Checked (TableDef × IndexDef)) → index_check (defs_of T) c ≡ m → GrowAll os (defs_of (index_effect T tx seq m).tables)
  index_grows c (Err e) is = g
  index_grows c (Ok x) is =
      let i : Indexed (defs_of T) x = indexed (defs_of T) c x is in
      let U : Tables = with_system_rows tx seq [] (index_starts x.0 x.1) T in
      subst (GrowAll os) (sym (defs_redefined (with_index x.0 x.1) U ∙ ap (redef (with_index x.0 x.1)) (with_system_defs tx seq T [] (index_starts x.0 x.1))))
      (in_place x.0 (with_index x.0 x.1) (has_indexed_table (λ n. n) tx T x ids i) (next_index x.0 x.1))

  altered_grows : (y : Alter) (x : WithColumn) → alter_check (defs_of T) y ≡ Ok x → GrowAll os (redef x.0 (defs_of T))
  altered_grows (Add table c) x e =
      let p : Added (defs_of T) table c x = added (defs_of T) table c x e in
      let old : TableDef = p.found.0 in
      subst (λ (z : WithColumn). GrowAll os (redef z.0 (defs_of T))) (sym p.is)
      (in_place old (with_added old c) (there T table p.found ids p.stands) (next_added old c p.free p.room))
  altered_grows (DropColumn table name) x e =
      let p : ColumnDropped (defs_of T) table name x = column_dropped (defs_of T) table name x e in
      let old : TableDef = p.found.0 in
      subst (λ (z : WithColumn). GrowAll os (redef z.0 (defs_of T))) (sym p.is)
      (in_place old (with_dropped old p.column) (there T table p.found ids p.stands) (next_dropped old p.column p.live.at p.live.live p.in_no_key p.free))

  drop_grows : (name : List ℕ) (def : TableDef) → drop_check (defs_of T) name ≡ Ok def → GrowAll os (redef def (defs_of T))
  drop_grows name def e =
      let p : TableDropped (defs_of T) name def = table_dropped (defs_of T) name def e in
      let old : TableDef = p.found.0 in
      subst (λ (d : TableDef). GrowAll os (redef d (defs_of T))) (sym p.is)
      (in_place old (dropped_table old) (there T name p.found ids p.stands) (next_gone old))

  altering_grows : (m : Checked Altered) → ((a : Altered) → m ≡ Ok a → GrowAll os (redef a.def (defs_of T))) → GrowAll os (defs_of (altered_effect T tx seq m).tables)
  altering_grows (Err e) f = g
  altering_grows (Ok a) f = subst (GrowAll os) (sym (redefined_defs tx seq T a)) (f a refl)

  creating : (stmt : Stmt) (b : Bool) → creates stmt ≡ b → GrowAll os (defs_of (effect T tx seq stmt).tables)
  unfolding effect
  creating stmt false e = subst (GrowAll os) (sym (defs_after T tx seq stmt e)) g
  creating (s.Create c) true e = table_grows (create_check (defs_of T) c)
  creating (s.Index c) true e = index_grows c (index_check (defs_of T) c) refl
  creating (s.Alter y) true e =
      altering_grows (alteration (defs_of T) (versions_of T tables_id) (versions_of T columns_id) y)
      (λ a is. by_alter (defs_of T) (versions_of T tables_id) (versions_of T columns_id) (λ a. GrowAll os (redef a.def (defs_of T))) y a is (altered_grows y))
  creating (s.Drop name) true e =
      altering_grows (table_drop (defs_of T) (versions_of T tables_id) (versions_of T columns_id) name)
      (λ a is. by_drop (defs_of T) (versions_of T tables_id) (versions_of T columns_id) (λ a. GrowAll os (redef a.def (defs_of T))) name a is (drop_grows name))
  creating (s.Change stmt) true e = cc
  creating (s.Select q) true e = cc
  creating s.Begin true e = cc
  creating s.Commit true e = cc
  creating (s.Save name) true e = cc
  creating (s.Rollback name) true e = cc
  creating s.Digest true e = cc
  creating s.Image true e = cc

  statement_grows : (stmt : Stmt) → GrowAll os (defs_of (effect T tx seq stmt).tables)
  statement_grows stmt = creating stmt (creates stmt) refl

-- ---- the items that follow

module _ (os : Defs) (reads : Reading) where
  abbrev pub GrowIn : Tables → Type 0
  GrowIn T = GrowAll os (defs_of T)

  abbrev Goes : ℕ → ℕ → Tables → Type 0
  Goes tx seq T = Sound tx seq T × GrowIn T

  step : (tx seq : ℕ) (T : Tables) (stmt : Stmt) → Goes tx seq T → Goes tx (effect T tx seq stmt).seq (effect T tx seq stmt).tables
  step tx seq T stmt h = (statement_sound tx seq T stmt h.0, statement_grows os tx seq T h.0.ids h.1 stmt)

  pub item_grows : (before : List JournalItem) (i : JournalItem) → IsLegal reads before → IsNext reads before (serial reads before) i → GrowIn (serial reads before) → GrowIn (after_item reads (serial reads before) i)
  item_grows before (Close k) legal next h = h
  item_grows before (Tx own session time explicit lines) legal next h =
      (whole_script own (Goes own) (step own) reads explicit (serial reads before) (map (λ l. l.0) lines) (legal_sound reads before own legal next.1, h)).0.1

  grows_from : (before items : List JournalItem) → IsLegal reads before → IsLegalFrom reads before (serial reads before) items → GrowIn (serial reads before) → GrowIn (serial_from reads (serial reads before) items)
  unfolding serial_from
  grows_from before [] legal from h = h
  grows_from before (i ∷ is) legal from h =
      let more : List JournalItem = before ++ i ∷ [] in
      let after : after_item reads (serial reads before) i ≡ serial reads more = sym (serial_more reads first_tables before i) in
      subst (λ (T : Tables). GrowIn (serial_from reads T is)) (sym after)
      (grows_from more is (more_legal reads [] first_tables before i legal from.0) (subst (λ (T : Tables). IsLegalFrom reads more T is) after from.1)
      (subst GrowIn after (item_grows before i legal from.0 h)))

module _ (reads : Reading) where
  front_grows : (A B : List JournalItem) → IsLegal reads (A ++ B) → GrowIn (defs_of (serial reads A)) reads (serial reads (A ++ B))
  front_grows A B legal =
      let p = parted reads [] first_tables A B legal in
      let os : Defs = defs_of (serial reads A) in
      subst (GrowIn os reads) (sym (append_serial reads first_tables A B)) (grows_from os reads A B p.0 p.1 (all_grow_themselves os))

  pub upto_grows : (items : List JournalItem) (n : ℕ) → IsLegal reads items → GrowAll (defs_of (serial reads (upto items n))) (defs_of (serial reads items))
  upto_grows items n legal =
      let r = upto_is_cut reads items n in
      let whole : take r.0 items ++ drop r.0 items ≡ items = take-append-drop r.0 items in
      subst (λ (l : List JournalItem). GrowAll (defs_of (serial reads l)) (defs_of (serial reads items))) (sym r.1)
      (subst (λ (l : List JournalItem). GrowAll (defs_of (serial reads (take r.0 items))) (defs_of (serial reads l))) whole
      (front_grows (take r.0 items) (drop r.0 items) (subst (IsLegal reads) (sym whole) legal)))
