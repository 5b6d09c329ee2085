-- Over two states that agree on all that a statement wants, it has one plan.
use Rattle.std.proofs.Common.{◌≡◌, ℕ, zero, suc, ◌+◌, ◌≤◌, refl, sym, ap, subst, ◌∙◌, false, List, [], ◌∷◌, ◌++◌, map, length, Option, Some, None, Ok, Err, arith}
use Rattle.std.specs.Prelude.{◌||◌, if◌then◌else◌, is_none}
use Rattle.std.specs.List.{list_any}
use Rattle.sql_value.specs.declared.column.ColumnDef.{ColumnDef}
use Rattle.sql_value.specs.declared.refusal.Refusal.TheVariants.{DuplicateKey}
use Rattle.sql_types.specs.declared.lock.Mode.TheVariants.{IS, IX, S, X}
use Rattle.sql_types.specs.declared.statement.Stmt.{Stmt}
use Rattle.sql_types.specs.declared.statement.Stmt.TheVariants as s
use Rattle.sql_types.specs.declared.statement.RowStmt.{RowStmt}
use Rattle.sql_types.specs.declared.statement.RowStmt.TheVariants.{Insert, Update, Delete}
use Rattle.sql_types.specs.declared.statement.Select.{Select}
use Rattle.sql_types.specs.declared.table.TableDef.{TableDef}
use Rattle.sql_types.specs.declared.table.Part.TheVariants.{Base, History, View, System}
use Rattle.sql_types.specs.declared.version.Version.{Version}
use Rattle.spec_model.specs.Refusals.{Checked, and_then}
use Rattle.spec_model.specs.Lists.{checked_fold, all_some}
use Rattle.spec_model.specs.Rows.{Row}
use Rattle.spec_model.specs.Keys.{Key, key_of, same_key, of_key, part_read, live_by_key, live_by_key_at, has_live_row_at}
use Rattle.spec_model.specs.Parts.{columns_of, shown_of, base_row, rows_of}
use Rattle.spec_model.specs.Where.{key_fixed}
use Rattle.spec_model.specs.Changes.{written_names, kept_row, arranged, is_duplicate, one_more, inserted_rows, versions_matched, insertion, row_changes}
use Rattle.spec_model.specs.Catalog.{Defs, NamedPart, Tables, defs_of, versions_of}
use Rattle.spec_model.specs.Checks.{row_statement_check}
use Rattle.spec_model.specs.Query.{query_check, selected}
use Rattle.spec_model.specs.SystemTables.{tables_id, columns_id}
use Rattle.spec_model.specs.Create.{create_check, index_check}
use Rattle.spec_model.specs.Alter.{Altered, alteration, table_drop}
use Rattle.spec_model.specs.Effect.{Effect, effect, query_rows}
use Rattle.spec_model.specs.Locks as request
use Rattle.spec_model.specs.ChangeSets.{ChangeSet, row_change_set, row_stmt_change_set, select_change_set, query_change_set, create_table_change_set, create_index_change_set, altered_change_set, change_set}
use Rattle.spec_model.specs.Agreement.{AgreeOnAll, AgreeInCell, SameCatalog, IdsFrom, AgreeFor, requests_of}
use Rattle.law_frame.proofs.Checked.{and_then_same, Parts, parts}
use Rattle.law_frame.proofs.InsertedKeys.{inserted_key}
use Rattle.law_frame.proofs.ChangeSets.{carries_change_set_out}
use Rattle.law_frame.proofs.NamedPart.{IsAmongDefs, checked_is_listed, query_is_listed, query_passed, found_is_system}

-- ---- INSERT

module _ (columns : List ColumnDef) (names : Option (List (List ℕ))) (V W : List Version) where
  -- the versions of the key of each row that is kept are the same in both
  abbrev KeysAgree : List Row → Type 0
  KeysAgree [] = Unit {0}
  KeysAgree (r ∷ rs) =
      ((row : Row) → kept_row columns (arranged columns names r) ≡ Ok row → of_key columns (key_of columns row) V ≡ of_key columns (key_of columns row) W)
      × KeysAgree rs

  one_more_same : (before : List Row) (row : Row) → of_key columns (key_of columns row) V ≡ of_key columns (key_of columns row) W → one_more columns V before row ≡ one_more columns W before row
  unfolding is_duplicate has_live_row_at
  one_more_same before row e = ap (λ (vs : List Version). if list_any (λ v. is_none v.end) vs || list_any (λ r. same_key (key_of columns r) (key_of columns row)) before then Err DuplicateKey else Ok (before ++ row ∷ [])) e

  abbrev next_row : List Version → List Row → Row → Checked (List Row)
  next_row vs before row = and_then (kept_row columns (arranged columns names row)) (one_more columns vs before)

  rows_same : (rows before : List Row) → KeysAgree rows → checked_fold (next_row V) before rows ≡ checked_fold (next_row W) before rows
  rows_same [] before h = refl
  rows_same (r ∷ rs) before h =
      ap (λ m. and_then m (λ more. checked_fold (next_row V) more rs))
      (and_then_same (kept_row columns (arranged columns names r)) (one_more columns V before) (one_more columns W before) (λ row is. one_more_same before row (h.0 row is)))
      ∙ and_then_same (next_row W before r) _ _ (λ more _. rows_same rs more h.1)

  abbrev Wanted : List Key → Type 0
  Wanted keys = AgreeOnAll columns (map (request.of_key X) keys) V W

  -- an INSERT that wants its keys alone
  keys_agree : (rows : List Row) (keys : List Key) → all_some (map (request.key_inserted columns names) rows) ≡ Some keys → Wanted keys → KeysAgree rows
  keys_agree [] keys e h = tt
  keys_agree (r ∷ rs) keys e h =
      let p : Parts (request.key_inserted columns names r) (all_some (map (request.key_inserted columns names) rs)) keys = parts _ _ keys e in
      let w : Wanted (p.first ∷ p.others) = subst Wanted p.are h in (
        (λ row is. subst (λ (k : Key). of_key columns k V ≡ of_key columns k W) (sym (inserted_key columns names r row p.first is p.is_first)) w.0),
        keys_agree rs p.others p.are_others w.1,
      )

  by_requests : (rows : List Row) (o : Option (List Key)) → all_some (map (request.key_inserted columns names) rows) ≡ o → AgreeOnAll columns (request.by_keys o) V W
      → inserted_rows columns V names rows ≡ inserted_rows columns W names rows
  unfolding inserted_rows
  by_requests rows (Some keys) e h = rows_same rows [] (keys_agree rows keys e h.1)
  by_requests rows None e h = ap (λ vs. checked_fold (next_row vs) [] rows) h.0

-- ---- by the key that WHERE fixes

changer_agrees : (columns : List ColumnDef) (key : Option Key) (V W : List Version) → AgreeOnAll columns (request.by_key_or_whole IX X key) V W → part_read columns key V ≡ part_read columns key W
changer_agrees columns (Some key) V W h = h.1.0
changer_agrees columns None V W h = h.0

reader_agrees : (columns : List ColumnDef) (key : Option Key) (V W : List Version) → AgreeOnAll columns (request.by_key_or_whole IS S key) V W → part_read columns key V ≡ part_read columns key W
reader_agrees columns (Some key) V W h = h.1.0
reader_agrees columns None V W h = h.0

live_same : (columns : List ColumnDef) (key : Option Key) (V W : List Version) → part_read columns key V ≡ part_read columns key W → live_by_key columns key V ≡ live_by_key columns key W
unfolding live_by_key_at
live_same columns key V W e = rw e refl

-- ---- INSERT, UPDATE and DELETE

pub same_changes : (def : TableDef) (stmt : RowStmt) (V W : List Version) → AgreeOnAll def.columns (request.row_requests def stmt) V W → row_changes def V stmt ≡ row_changes def W stmt
unfolding row_changes request.row_requests versions_matched
same_changes def (Insert table names rows) V W h =
    ap (λ m. and_then m (λ kept. Ok (insertion def.columns kept)))
    (by_requests def.columns (written_names def names) V W rows (all_some (map (request.key_inserted def.columns (written_names def names)) rows)) refl h)
same_changes def (Update table sets cond) V W h = rw (live_same def.columns (key_fixed def.columns cond) V W (changer_agrees def.columns (key_fixed def.columns cond) V W h)) refl
same_changes def (Delete table cond) V W h = rw (live_same def.columns (key_fixed def.columns cond) V W (changer_agrees def.columns (key_fixed def.columns cond) V W h)) refl

module _ (T U : Tables) (ids : IdsFrom 1 (defs_of T)) where
  by_check : (stmt : RowStmt) (m : Checked TableDef) → row_statement_check (defs_of T) stmt ≡ m → AgreeInCell (request.row_cell_requests stmt m) T U → row_stmt_change_set T stmt m ≡ row_stmt_change_set U stmt m
  by_check stmt (Ok def) e h =
      let has_listing : IsAmongDefs 1 (defs_of T) def = checked_is_listed (defs_of T) stmt def ids e in
      ap (row_change_set def.id) (same_changes def stmt (versions_of T def.id) (versions_of U def.id)
      (subst (λ (columns : List ColumnDef). AgreeOnAll columns (request.row_requests def stmt) (versions_of T def.id) (versions_of U def.id)) has_listing.columns h))
  by_check stmt (Err r) e h = refl

  -- ---- SELECT

  pub rows_by_requests : (q : Select) (n : NamedPart) (V W : List Version) → (n.1 ≡ System → V ≡ W) → AgreeOnAll n.0.columns (request.query_requests n q) V W → query_rows q n V ≡ query_rows q n W
  unfolding query_rows request.query_requests rows_of
  rows_by_requests q (def, Base) V W sys h = ap (λ vs. selected (columns_of def Base) def.dropped (shown_of def Base) q (map (base_row def.columns) vs)) (live_same def.columns (key_fixed def.columns q.cond) V W (reader_agrees def.columns (key_fixed def.columns q.cond) V W h))
  rows_by_requests q (def, History) V W sys h = rw (h.0) refl
  rows_by_requests q (def, View) V W sys h = rw (h.0) refl
  rows_by_requests q (def, System) V W sys h = rw (sys refl) refl

  -- the versions of a system table are those of the catalog
  system_same : (id : ℕ) → SameCatalog T U → 1 ≤ id → id ≤ 2 → versions_of T id ≡ versions_of U id
  system_same zero c low high = absurd (omega (arith, low))
  system_same (suc zero) c low high = c.tables
  system_same (suc (suc zero)) c low high = c.columns
  system_same (suc (suc (suc n))) c low high = absurd (omega (arith, high))

  by_query : (q : Select) (m : Checked NamedPart) → query_check (defs_of T) q ≡ m → SameCatalog T U → AgreeInCell (request.query_cell_requests q m) T U → query_change_set T q m ≡ query_change_set U q m
  by_query q (Ok n) e c h =
      let has_listing : IsAmongDefs 1 (defs_of T) n.0 = query_is_listed (defs_of T) q n ids e in
      let p = query_passed (defs_of T) q n e in
      ap select_change_set (rows_by_requests q n (versions_of T n.0.id) (versions_of U n.0.id)
      (λ sys. system_same n.0.id c has_listing.from (found_is_system (defs_of T) q.table n p.by_name sys))
      (subst (λ (columns : List ColumnDef). AgreeOnAll columns (request.query_requests n q) (versions_of T n.0.id) (versions_of U n.0.id)) has_listing.columns h))
  by_query q (Err r) e c h = refl

  -- ---- ALTER and DROP

  one_alteration : (check : Defs → List Version → List Version → Checked Altered) → SameCatalog T U
      → altered_change_set (check (defs_of T) (versions_of T tables_id) (versions_of T columns_id)) ≡ altered_change_set (check (defs_of U) (versions_of U tables_id) (versions_of U columns_id))
  one_alteration check c =
      ap (λ (defs : Defs). altered_change_set (check defs (versions_of T tables_id) (versions_of T columns_id))) c.definitions
      ∙ ap (λ (first : List Version). altered_change_set (check (defs_of U) first (versions_of T columns_id))) c.tables
      ∙ ap (λ (second : List Version). altered_change_set (check (defs_of U) (versions_of U tables_id) second)) c.columns

  -- ---- all statements

  pub same_change_set : (stmt : Stmt) → AgreeFor T U (requests_of (defs_of T) false stmt) → change_set T stmt ≡ change_set U stmt
  unfolding change_set request.cell_requests
  same_change_set (s.Create c) a = ap (λ defs. create_table_change_set (create_check defs c)) a.catalog.definitions
  same_change_set (s.Index c) a = ap (λ defs. create_index_change_set (index_check defs c)) a.catalog.definitions
  same_change_set (s.Alter x) a = one_alteration (λ defs first second. alteration defs first second x) a.catalog
  same_change_set (s.Drop name) a = one_alteration (λ defs first second. table_drop defs first second name) a.catalog
  same_change_set (s.Change stmt) a =
      by_check stmt (row_statement_check (defs_of T) stmt) refl a.cell
      ∙ ap (λ defs. row_stmt_change_set U stmt (row_statement_check defs stmt)) a.catalog.definitions
  same_change_set (s.Select q) a =
      by_query q (query_check (defs_of T) q) refl a.catalog a.cell
      ∙ ap (λ defs. query_change_set U q (query_check defs q)) a.catalog.definitions
  same_change_set s.Begin a = refl
  same_change_set s.Commit a = refl
  same_change_set (s.Save name) a = refl
  same_change_set (s.Rollback name) a = refl
  same_change_set s.Digest a = refl
  same_change_set s.Image a = refl

pub same_reply : (T U : Tables) (tx seq : ℕ) (stmt : Stmt) → IdsFrom 1 (defs_of T) → AgreeFor T U (requests_of (defs_of T) false stmt) → (effect T tx seq stmt).reply ≡ (effect U tx seq stmt).reply
same_reply T U tx seq stmt ids a =
    ap (λ (e : Effect). e.reply) (carries_change_set_out T tx seq stmt) ∙ ap (λ (p : ChangeSet). p.reply) (same_change_set T U ids stmt a) ∙ ap (λ (e : Effect). e.reply) (sym (carries_change_set_out U tx seq stmt))

pub same_counter : (T U : Tables) (tx seq : ℕ) (stmt : Stmt) → IdsFrom 1 (defs_of T) → AgreeFor T U (requests_of (defs_of T) false stmt) → (effect T tx seq stmt).seq ≡ (effect U tx seq stmt).seq
same_counter T U tx seq stmt ids a =
    ap (λ (e : Effect). e.seq) (carries_change_set_out T tx seq stmt) ∙ ap (λ (p : ChangeSet). seq + length p.changes) (same_change_set T U ids stmt a) ∙ ap (λ (e : Effect). e.seq) (sym (carries_change_set_out U tx seq stmt))
