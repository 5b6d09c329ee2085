-- The rows of the system's tables in the image of a legal journal keep the rules of changes.
use Rattle.std.proofs.Common.{◌≡◌, ◌<◌, ◌≤◌, ℕ, zero, suc, Bool, false, inl, inr, refl, sym, ap, ap₂, subst, ◌∙◌, true, List, [], ◌∷◌, ◌++◌, map, flat_map, length, Option, None, arith}
use Rattle.std.proofs.lemmas.Bool.{leb-true}
use Rattle.std.proofs.lemmas.List.Concat.{flat_map-cons}
use Rattle.std.specs.Prelude.{ℤ, pos, ◌&&◌}
use Rattle.std.specs.List.{AllByRecursion, Any, filter_map, slice_index_or}
use Rattle.std.specs.Ordering.{int_cmp, on}
use Rattle.sql_types.specs.declared.entry.TxEntry.{TxEntry}
use Rattle.sql_types.specs.declared.image.Image.{Image}
use Rattle.sql_types.specs.declared.journal.JournalItem.{JournalItem}
use Rattle.sql_types.specs.declared.table.TableDef.{TableDef}
use Rattle.sql_types.specs.declared.version.Table.{Table}
use Rattle.sql_types.specs.declared.version.Version.{Version}
use Rattle.spec_model.specs.Catalog.{Defs, Tables, defs_of}
use Rattle.spec_model.specs.Journals.{serial, IsLegal}
use Rattle.spec_model.specs.Rows.{live, values_of}
use Rattle.spec_model.specs.Script.{Reading}
use Rattle.spec_model.specs.SystemTables.{columns_id}
use Rattle.law_frame.proofs.Alls.{all_append, all_both, all_filter, all_map, all_weaker}
use Rattle.law_journal.specs.AppendOnly.{AllKeepRows}
use Rattle.law_journal.specs.Serial.{place_in, TableOf}
use Rattle.law_journal.proofs.Serials.{legal_tables, legal_keeps_rows}
use Rattle.law_catalog_rows.specs.Differs.{table_of}
use Rattle.law_catalog_rows.specs.Encoded.{IsAmong}
use Rattle.law_catalog_rows.specs.Formed.{AreInFront}
use Rattle.law_catalog_rows.specs.IsEncodableDef.{is_encodable_def}
use Rattle.law_catalog_rows.specs.Written.{ReadsWritten}
use Rattle.spec_ledger.specs.Ledger.{entries_of}
use Rattle.format_image.specs.Image.{user_defs, image_of}
use Rattle.format_image.specs.Rows.{ended_ones, filled_table, filled_version, table_rows}
use Rattle.spec_rules.specs.Places.{PlacedRow, placed}
use Rattle.spec_rules.specs.Rows.{CatalogRows, catalog_rows, columns_about, indexes_about, tables_about}
use Rattle.spec_rules.specs.ColumnNames.{column_names_are_new}
use Rattle.spec_rules.specs.Columns.{columns_are_right}
use Rattle.spec_rules.specs.Ids.{ids_follow}
use Rattle.spec_rules.specs.Indexes.{indexes_are_in_time}
use Rattle.spec_rules.specs.OneStatement.{one_statement}
use Rattle.spec_rules.specs.OrderOfChanges.{changes_are_in_order}
use Rattle.spec_rules.specs.TableNames.{table_names_are_new}
use Rattle.spec_rules.specs.Tables.{tables_are_right}
use Rattle.spec_rules.specs.WhileTheTableIsThere.{is_while_the_table_is_there}
use Rattle.law_rules.specs.Alone.{HasOneStatement}
use Rattle.law_rules.specs.Steps.{Catalog, catalog_of, rows_at, users_of}
use Rattle.law_rules.proofs.Frame.{legal_encodable}
use Rattle.law_rules.proofs.LegalIndexes.{indexes_in_time}
use Rattle.law_rules.proofs.LegalColumns.{changes_legal, columns_legal}
use Rattle.law_rules.proofs.LegalNames.{columns_new, ids_new, tables_new}
use Rattle.law_rules.proofs.Tables.{legal_right}
use Rattle.law_rules.proofs.WhileThere.{AreThere, legal_there}
use Rattle.spec_verify.specs.declared.place.Place.TheVariants as at
use Rattle.spec_verify.specs.Definitions.{base_in, base_rows, definition_fault}
use Rattle.spec_verify.specs.Order.{position_of}
use Rattle.spec_verify.specs.Rules.{ids_of_rows, last_before, rows_of_image, table_rule_fault, version_rule_fault}
use Rattle.spec_verify.specs.Entries.{table_event_cmp}
use Rattle.spec_verify.specs.Sentences.{IsEncodedAt, TableRulesHold, TableVersion, VersionRulesHold, ids_of_tables, start_of, versions_of_image}
use Rattle.spec_verify.proofs.AllTold.{all_hold, no_least}
use Rattle.spec_verify.proofs.ToldRules.{table_rules_told, version_rules_told}
use Rattle.spec_verify.proofs.ToldTables.{definitions_told}
use Rattle.law_accepts.proofs.Definitions.{definitions_hold, first_whole, second_whole}
use Rattle.law_accepts.proofs.Ids.{same_place}
use Rattle.law_accepts.proofs.OneStatement.{one_statement_kept}
use Rattle.law_accepts.proofs.Shown.{in_front, in_parts, tables_shown}

-- ---- the rows, and the definitions

all_live : (vs : List Version) → AllByRecursion (λ v. v.end ≡ None) vs → live vs ≡ vs
all_live [] h = refl
all_live (v ∷ vs) h = rw (h.0, all_live vs h.1) refl

module _ (items : List JournalItem) (entries : List TxEntry) (same : (id : ℕ) → position_of entries id ≡ place_in items id) where
  placed_same : (vs : List Version) → map (placed entries) vs ≡ rows_at (place_in items) vs
  placed_same [] = refl
  placed_same (v ∷ vs) = ap₂ (λ (r : PlacedRow) (rs : List PlacedRow). r ∷ rs) (ap (λ (n : ℕ). record { place = (n, v.start.1); row = values_of v }) (same v.start.0)) (placed_same vs)

  rows_shown : (T : Tables) → AreInFront (defs_of T) → AllByRecursion (TableOf items) T → AllKeepRows T
      → catalog_rows entries (base_in (map table_rows T) 0) (base_in (map table_rows T) 1) ≡ (catalog_of (place_in items) T).rows
  unfolding table_rows
  rows_shown [] front is keep = absurd front
  rows_shown (a ∷ []) front is keep = absurd front
  rows_shown (a ∷ b ∷ users) front is keep =
      let first : live (map (filled_version a.def.columns) a.versions) ≡ a.versions = ap live (first_whole items a front.0 is.0) ∙ all_live a.versions (keep.0 (ap (λ (d : TableDef). d.kind) front.0)) in
      let second : live (map (filled_version b.def.columns) b.versions) ≡ b.versions = ap live (second_whole items b front.1 is.1.0) ∙ all_live b.versions (keep.1.0 (ap (λ (d : TableDef). d.kind) front.1)) in
      ap₂ (λ (fs ss : List PlacedRow). record { tables = fs; items = ss }) (ap (map (placed entries)) first ∙ placed_same a.versions) (ap (map (placed entries)) second ∙ placed_same b.versions)

  defs_shown : (T : Tables) → user_defs T ≡ (catalog_of (place_in items) T).defs
  defs_shown [] = refl
  defs_shown (a ∷ []) = refl
  defs_shown (a ∷ b ∷ users) = refl

-- the id of a definition that keeps to the rules is that of a user's table
front : (a b : Bool) → (a && b) ≡ true → a ≡ true
front true b e = refl
front false b e = cc

user_id : (def : TableDef) → is_encodable_def def ≡ true → 2 < def.id
user_id def e =
    let twelve = front _ _ (front _ _ (front _ _ (front _ _ (front _ _ (front _ _ (front _ _ (front _ _ (front _ _ (front _ _ (front _ _ (front _ _ (front _ _ e)))))))))))) in
    let three : 3 ≤ def.id = leb-true 3 def.id (front _ _ twelve) in
    omega (arith, three)

-- ---- tables that rows are about are defined

first_two : {A : Type 0} (P : A → Type 0) (xs ys zs : List A) → AllByRecursion P (xs ++ (ys ++ zs)) → AllByRecursion P (xs ++ ys)
first_two P [] [] zs h = tt
first_two P [] (y ∷ ys) zs h = (h.0, first_two P [] ys zs h.1)
first_two P (x ∷ xs) ys zs h = (h.0, first_two P xs ys zs h.1)

-- the table with this id is defined
abbrev Defined : Defs → ℤ → Type 0
Defined defs t = (def : TableDef) × IsAmong def defs × (pos def.id ≡ t)

defined : (Q : TableDef → Type 0) (t : ℤ) (defs : Defs) → Any (λ (d : TableDef). (pos d.id ≡ t) × Q d) defs → Defined defs t
defined Q t defs a = at_place defs a.0 a.1 a.2 a.3 a.4.0
  where
    at_place : (ds : Defs) (k : ℕ) (d : TableDef) → k < length ds → slice_index_or ds k d ≡ d → pos d.id ≡ t → Defined ds t
    at_place [] k d lt e is = absurd (omega (arith, lt))
    at_place (x ∷ ds) zero d lt e is = (d, inl e, is)
    at_place (x ∷ ds) (suc k) d lt e is = let r = at_place ds k d (omega (arith, lt)) e is in (r.0, inr r.1, r.2)

-- ---- versions of users' tables

module _ (entries : List TxEntry) (rows : CatalogRows) where
  -- a version of a user's table starts and ends while the table is there
  abbrev pub IsThere : TableVersion → Type 0
  IsThere x = columns_id < x.0.def.id → is_while_the_table_is_there entries rows (pos x.0.def.id) x.1 ≡ true

  same_for_filled : (t : Table) (v : Version) → is_while_the_table_is_there entries rows (pos t.def.id) v ≡ true → is_while_the_table_is_there entries rows (pos t.def.id) (filled_version t.def.columns v) ≡ true
  unfolding is_while_the_table_is_there
  same_for_filled t v e = e

  -- in both parts of the table as the image shows it
  there_in_parts : (t : Table) → AreThere entries rows t → AreThere entries rows (in_parts (filled_table t))
  there_in_parts t all =
      let filled : AreThere entries rows (filled_table t) =
      all_map (λ v. is_while_the_table_is_there entries rows (pos t.def.id) v ≡ true) (λ v. is_while_the_table_is_there entries rows (pos t.def.id) v ≡ true) (filled_version t.def.columns)
      (λ v e. same_for_filled t v e) t.versions all in
      let vs : List Version = (filled_table t).versions in
      all_append (λ v. is_while_the_table_is_there entries rows (pos t.def.id) v ≡ true) (live vs) (ended_ones vs)
      (all_filter (λ v. is_while_the_table_is_there entries rows (pos t.def.id) v ≡ true) _ vs filled) (all_filter (λ v. is_while_the_table_is_there entries rows (pos t.def.id) v ≡ true) _ vs filled)

  with_their_table : (t : Table) (vs : List Version) → AllByRecursion (λ v. columns_id < t.def.id → is_while_the_table_is_there entries rows (pos t.def.id) v ≡ true) vs → AllByRecursion IsThere (map (λ v. (t, v)) vs)
  with_their_table t vs all = all_map (λ v. columns_id < t.def.id → is_while_the_table_is_there entries rows (pos t.def.id) v ≡ true) IsThere (λ v. (t, v)) (λ v k. k) vs all

  abbrev its_versions : Table → List TableVersion
  its_versions t = map (λ v. (t, v)) t.versions

  of_system : (t : Table) (vs : List Version) → t.def.id ≤ columns_id → AllByRecursion (λ v. columns_id < t.def.id → is_while_the_table_is_there entries rows (pos t.def.id) v ≡ true) vs
  of_system t [] le = tt
  of_system t (v ∷ vs) le = ((λ lt. absurd (omega (arith, lt, le))), of_system t vs le)

  of_tables : (ts : Tables) → AllByRecursion (AreThere entries rows) ts → AllByRecursion IsThere (flat_map its_versions (map in_parts (map filled_table ts)))
  of_tables [] all = tt
  of_tables (t ∷ ts) all =
      let u : Table = in_parts (filled_table t) in
      subst (AllByRecursion IsThere) (sym (flat_map-cons its_versions u (map in_parts (map filled_table ts))))
      (all_append IsThere (its_versions u) (flat_map its_versions (map in_parts (map filled_table ts)))
      (with_their_table u u.versions (all_weaker (λ v. is_while_the_table_is_there entries rows (pos t.def.id) v ≡ true) (λ v. columns_id < t.def.id → is_while_the_table_is_there entries rows (pos t.def.id) v ≡ true)
      (λ v e lt. e) u.versions (there_in_parts t all.0)))
      (of_tables ts all.1))

  system_first : (t : Table) (ts : Tables) → t.def.id ≤ columns_id → AllByRecursion IsThere (flat_map its_versions (map in_parts (map filled_table ts)))
      → AllByRecursion IsThere (flat_map its_versions (map in_parts (map filled_table (t ∷ ts))))
  system_first t ts le more =
      let u : Table = in_parts (filled_table t) in
      subst (AllByRecursion IsThere) (sym (flat_map-cons its_versions u (map in_parts (map filled_table ts))))
      (all_append IsThere (its_versions u) (flat_map its_versions (map in_parts (map filled_table ts))) (with_their_table u u.versions (of_system u u.versions le)) more)

  all_versions : (T : Tables) → AreInFront (defs_of T) → AllByRecursion (AreThere entries rows) (users_of T) → AllByRecursion IsThere (flat_map its_versions (map in_parts (map filled_table T)))
  all_versions [] front all = absurd front
  all_versions (a ∷ []) front all = absurd front
  all_versions (a ∷ b ∷ users) front all =
      let first : a.def.id ≡ 1 = ap (λ (d : TableDef). d.id) front.0 in
      let second : b.def.id ≡ 2 = ap (λ (d : TableDef). d.id) front.1 in
      system_first a (b ∷ users) (omega (arith, first)) (system_first b users (omega (arith, second)) (of_tables users all))

module _ (h : List ℕ → List ℕ) (reads : Reading) (database : List ℕ) (items : List JournalItem) (written : ReadsWritten reads) (legal : IsLegal reads items) where
  abbrev shown : Image
  shown = image_of h reads database items

  abbrev x : Catalog
  x = catalog_of (place_in items) (serial reads items)

  pub rows_are : rows_of_image shown ≡ x.rows
  unfolding image_of
  rows_are =
      rows_shown items (entries_of h reads items) (same_place h reads items legal) (serial reads items) (in_front h reads database items legal)
      (legal_tables reads items legal).each (legal_keeps_rows reads items legal)

  defs_are : shown.defs ≡ x.defs
  unfolding image_of
  defs_are = defs_shown items (entries_of h reads items) (same_place h reads items legal) (serial reads items)

  ids_defined : AllByRecursion (Defined x.defs) (ids_of_rows shown)
  ids_defined =
      let spelled : AllByRecursion (IsEncodedAt shown) (ids_of_tables shown) =
      all_hold int_cmp (IsEncodedAt shown) (λ id p. p ≡ at.Table id) (ids_of_tables shown) (definition_fault shown) (definitions_told shown) (definitions_hold h reads database items written legal) in
      all_weaker (IsEncodedAt shown) (Defined x.defs) (λ t e. subst (λ (ds : Defs). Defined ds t) defs_are (defined _ t shown.defs e)) (ids_of_rows shown)
      (first_two (IsEncodedAt shown) (filter_map table_of (base_rows shown.tables 0)) (filter_map table_of (base_rows shown.tables 1)) (map (λ (d : TableDef). pos d.id) shown.defs) spelled)

  -- what holds of the rows about each table that is defined holds of those about each table that rows are about
  pub each_table : (Q : CatalogRows → ℤ → Type 0) → ((def : TableDef) → IsAmong def x.defs → Q x.rows (pos def.id)) → AllByRecursion (Q (rows_of_image shown)) (ids_of_rows shown)
  each_table Q holds =
      all_weaker (Defined x.defs) (Q (rows_of_image shown)) (λ t d. subst (λ (rows : CatalogRows). Q rows t) (sym rows_are) (subst (Q x.rows) d.2 (holds d.0 d.1))) (ids_of_rows shown) ids_defined

  -- ---- rule by rule

  pub tables_hold : AllByRecursion (λ t. tables_are_right (tables_about (rows_of_image shown) t) ≡ true) (ids_of_rows shown)
  tables_hold = each_table (λ rows t. tables_are_right (tables_about rows t) ≡ true) (legal_right reads written items legal)

  pub columns_hold : AllByRecursion (λ t. columns_are_right (columns_about (rows_of_image shown) t) ≡ true) (ids_of_rows shown)
  columns_hold = each_table (λ rows t. columns_are_right (columns_about rows t) ≡ true) (columns_legal reads items written legal)

  pub changes_hold : AllByRecursion (λ t. changes_are_in_order (tables_about (rows_of_image shown) t) (columns_about (rows_of_image shown) t) ≡ true) (ids_of_rows shown)
  changes_hold = each_table (λ rows t. changes_are_in_order (tables_about rows t) (columns_about rows t) ≡ true) (changes_legal reads items written legal)

  pub column_names_hold : AllByRecursion (λ t. column_names_are_new (columns_about (rows_of_image shown) t) ≡ true) (ids_of_rows shown)
  column_names_hold = each_table (λ rows t. column_names_are_new (columns_about rows t) ≡ true) (columns_new reads items written legal)

  pub table_names_hold : AllByRecursion (λ t. table_names_are_new (rows_of_image shown) t ≡ true) (ids_of_rows shown)
  table_names_hold = each_table (λ rows t. table_names_are_new rows t ≡ true) (λ def among. tables_new reads items written legal (pos def.id))

  pub indexes_hold : AllByRecursion (λ t. indexes_are_in_time (tables_about (rows_of_image shown) t) (columns_about (rows_of_image shown) t) (indexes_about (rows_of_image shown) t) ≡ true) (ids_of_rows shown)
  indexes_hold = each_table (λ rows t. indexes_are_in_time (tables_about rows t) (columns_about rows t) (indexes_about rows t) ≡ true) (indexes_in_time reads items written legal)

  pub one_statements_hold : AllByRecursion HasOneStatement items → AllByRecursion (λ t. one_statement shown.entries (rows_of_image shown) t ≡ true) (ids_of_rows shown)
  unfolding image_of
  one_statements_hold alone = each_table (λ rows t. one_statement (entries_of h reads items) rows t ≡ true) (λ def among. one_statement_kept h reads written items legal alone (pos def.id))

  pub ids_follow_on : AllByRecursion (λ t. ids_follow (rows_of_image shown) t ≡ true) (ids_of_rows shown)
  ids_follow_on = each_table (λ rows t. ids_follow rows t ≡ true) (λ def among. ids_new reads items written legal def among (users def among))
    where
      users : (def : TableDef) → IsAmong def x.defs → 2 < def.id
      users def among = user_id def (legal_encodable reads written items legal def among)

  -- all eight together
  pub table_rules_hold : AllByRecursion HasOneStatement items → table_rule_fault shown ≡ None
  table_rules_hold alone =
      no_least int_cmp (TableRulesHold shown) (λ id p. p ≡ at.Table id) (ids_of_rows shown) (table_rule_fault shown) (table_rules_told shown)
      (together (ids_of_rows shown) (one_statements_hold alone) tables_hold columns_hold changes_hold column_names_hold indexes_hold ids_follow_on table_names_hold)
    where
      together : (ts : List ℤ) → AllByRecursion (λ t. one_statement shown.entries (rows_of_image shown) t ≡ true) ts
          → AllByRecursion (λ t. tables_are_right (tables_about (rows_of_image shown) t) ≡ true) ts
          → AllByRecursion (λ t. columns_are_right (columns_about (rows_of_image shown) t) ≡ true) ts
          → AllByRecursion (λ t. changes_are_in_order (tables_about (rows_of_image shown) t) (columns_about (rows_of_image shown) t) ≡ true) ts
          → AllByRecursion (λ t. column_names_are_new (columns_about (rows_of_image shown) t) ≡ true) ts
          → AllByRecursion (λ t. indexes_are_in_time (tables_about (rows_of_image shown) t) (columns_about (rows_of_image shown) t) (indexes_about (rows_of_image shown) t) ≡ true) ts
          → AllByRecursion (λ t. ids_follow (rows_of_image shown) t ≡ true) ts → AllByRecursion (λ t. table_names_are_new (rows_of_image shown) t ≡ true) ts
          → AllByRecursion (TableRulesHold shown) ts
      together [] a b c d e f g i = tt
      together (t ∷ ts) a b c d e f g i = (
        record { one_statement = a.0; tables = b.0; columns = c.0; order_of_changes = d.0; column_names = e.0; indexes = f.0; ids = g.0; table_names = i.0 },
        together ts a.1 b.1 c.1 d.1 e.1 f.1 g.1 i.1,
      )

  pub versions_there : AllByRecursion (IsThere shown.entries (rows_of_image shown)) (versions_of_image shown)
  unfolding image_of
  versions_there =
      let entries : List TxEntry = entries_of h reads items in
      subst (λ (rows : CatalogRows). AllByRecursion (IsThere entries rows) (versions_of_image shown)) (sym rows_are)
      (subst (λ (T : Tables). AllByRecursion (IsThere entries x.rows) (flat_map (its_versions entries x.rows) T)) (sym (tables_shown h reads database items legal))
      (all_versions entries x.rows (serial reads items) (in_front h reads database items legal) (legal_there reads written items legal entries (same_place h reads items legal))))

  -- so no version breaks a rule
  pub no_version_breaks_a_rule : version_rule_fault shown ≡ None
  no_version_breaks_a_rule =
      no_least (on start_of table_event_cmp) (VersionRulesHold shown) (λ y p. p ≡ at.Event y.0.def.id y.1.start.0 y.1.start.1) (versions_of_image shown) (version_rule_fault shown) (version_rules_told shown)
      (all_weaker (IsThere shown.entries (rows_of_image shown)) (VersionRulesHold shown)
      (λ y there lt. record { while_the_table_is_there = there lt }) (versions_of_image shown) versions_there)
