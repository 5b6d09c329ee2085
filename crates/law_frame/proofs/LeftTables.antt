-- What a statement leaves alone, in the tables after it.
use Rattle.std.proofs.Common.{◌≡◌, ℕ, ◌+◌, refl, sym, ap, subst, ◌∙◌, Bool, true, false, List, [], ◌∷◌, ◌++◌, map, Option, Some, None, Ok, Err, ⊎_elim}
use Rattle.std.proofs.lemmas.Bool.{eqb-true, eq-eqb}
use Rattle.std.specs.Prelude.{◌==◌, ◌&&◌}
use Rattle.std.specs.List.{AllByRecursion, list_any}
use Rattle.sql_value.specs.declared.column.ColumnDef.{ColumnDef}
use Rattle.sql_types.specs.declared.lock.Mode.TheVariants.{IX, X}
use Rattle.sql_types.specs.declared.statement.Stmt.{Stmt}
use Rattle.sql_types.specs.declared.statement.Stmt.TheVariants as s
use Rattle.sql_types.specs.declared.statement.RowStmt.{RowStmt}
use Rattle.sql_types.specs.declared.statement.RowStmt.TheVariants.{Insert, Update, Delete}
use Rattle.sql_types.specs.declared.statement.Select.{Select}
use Rattle.sql_types.specs.declared.table.TableDef.{TableDef}
use Rattle.sql_types.specs.declared.table.IndexDef.{IndexDef}
use Rattle.sql_types.specs.declared.version.Version.{Version}
use Rattle.spec_model.specs.Refusals.{Checked, and_then}
use Rattle.spec_model.specs.Lists.{all_some, repeats}
use Rattle.spec_model.specs.Rows.{Row}
use Rattle.spec_model.specs.Keys.{Key, of_key}
use Rattle.spec_model.specs.Where.{key_fixed}
use Rattle.spec_model.specs.Changes.{Change, Changes, changed, changed_all, written_names, inserted_rows, insertion, row_changes}
use Rattle.spec_model.specs.Catalog.{NamedPart, Tables, defs_of, versions_of, changed_table}
use Rattle.spec_model.specs.Checks.{row_check, row_statement_check}
use Rattle.spec_model.specs.Query.{query_check}
use Rattle.spec_model.specs.SystemTables.{tables_id, columns_id, column_rows}
use Rattle.spec_model.specs.Create.{names_of, create_check, index_check, with_index}
use Rattle.spec_model.specs.Alter.{Altered, alteration, table_drop}
use Rattle.spec_model.specs.Effect.{Effect, effect, query_rows, table_start, column_starts, index_starts}
use Rattle.spec_model.specs.Locks as request
use Rattle.spec_model.specs.ChangeSets.{TableChange, in_table, changed_in, changed_from, ChangeSet, row_change_set, row_stmt_change_set, select_change_set, query_change_set, create_table_change_set, create_index_change_set, altered_change_set, change_set, carried_out}
use Rattle.spec_model.specs.Agreement.{columns_at, requests_of}
use Rattle.spec_model.specs.Runs.{Sound}
use Rattle.spec_model.specs.Reach.{lets_change, is_exclusive, cell_reaches, cell_reaches_table, catalog_reaches, reaches, reaches_table}
use Rattle.law_frame.proofs.Checked.{Parts, parts}
use Rattle.law_frame.proofs.Alls.{all_append}
use Rattle.law_frame.proofs.SameKeys.{or_false}
use Rattle.law_frame.proofs.ChangeSets.{carries_change_set_out, in_one_table}
use Rattle.law_frame.proofs.NamedPart.{IsAmongDefs, Passed, passed, checked_is_listed}
use Rattle.law_frame.proofs.AtTable.{changed_at, new_table, redefined_table, rising_at, names_at}
use Rattle.law_frame.proofs.LeftAlone.{Leaves, all_leave}
use Rattle.law_frame.proofs.LeftRows.{row_leaves}

not_both : {b : Bool} → b ≡ false → b ≡ true → ⊥
not_both h k = cc

-- ---- changes of other tables

module _ (id : ℕ) where
  abbrev Elsewhere : TableChange → Type 0
  Elsewhere c = (c.0 == id) ≡ false

  one_elsewhere : (tx seq : ℕ) (c : TableChange) (T : Tables) → Elsewhere c → versions_of (changed_in (tx, seq) c T) id ≡ versions_of T id
  one_elsewhere tx seq c T h = ⊎_elim
      (λ (same : versions_of (changed_in (tx, seq) c T) id ≡ versions_of T id). same)
      (λ (own : (c.0 ≡ id) × (versions_of (changed_in (tx, seq) c T) id ≡ changed (tx, seq) c.1 (versions_of T id))). absurd (not_both h (eq-eqb c.0 id own.0)))
      (changed_at c.0 id (changed (tx, seq) c.1) T)

  pub elsewhere : (tx seq : ℕ) (cs : List TableChange) (T : Tables) → AllByRecursion Elsewhere cs → versions_of (changed_from tx seq cs T) id ≡ versions_of T id
  elsewhere tx seq [] T h = refl
  elsewhere tx seq (c ∷ cs) T h = elsewhere tx (seq + 1) cs (changed_in (tx, seq) c T) h.1 ∙ one_elsewhere tx seq c T h.0

  pub all_in_other : (n : ℕ) (cs : List Change) → (n == id) ≡ false → AllByRecursion Elsewhere (in_table n cs)
  all_in_other n [] h = tt
  all_in_other n (c ∷ cs) h = (h, all_in_other n cs h)

  -- ---- the catalog

  turn : (n : ℕ) → (id == n) ≡ false → (n == id) ≡ false
  turn n h = here (n == id) refl
    where
      here : (b : Bool) → (n == id) ≡ b → b ≡ false
      here true e = absurd (not_both h (eq-eqb id n (sym (eqb-true n id e))))
      here false e = refl

  -- rows of the system tables alone
  created : (tx seq : ℕ) (cs ds : List Change) (T : Tables) → catalog_reaches id (Some X) ≡ false → versions_of (changed_from tx seq (in_table tables_id cs ++ in_table columns_id ds) T) id ≡ versions_of T id
  created tx seq cs ds T h =
      let p = or_false (id == tables_id) (id == columns_id) h in
      elsewhere tx seq (in_table tables_id cs ++ in_table columns_id ds) T
      (all_append Elsewhere (in_table tables_id cs) (in_table columns_id ds) (all_in_other tables_id cs (turn tables_id p.0)) (all_in_other columns_id ds (turn columns_id p.1)))

  abbrev after : ℕ → ℕ → ChangeSet → Tables → List Version
  after tx seq p T = versions_of (carried_out T tx seq p).tables id

  table_left : (tx seq : ℕ) (T : Tables) (m : Checked TableDef) → catalog_reaches id (Some X) ≡ false → after tx seq (create_table_change_set m) T ≡ versions_of T id
  table_left tx seq T (Ok def) h = new_table def id _ ∙ created tx seq (table_start def) (column_starts (column_rows def)) T h
  table_left tx seq T (Err e) h = refl

  index_left : (tx seq : ℕ) (T : Tables) (m : Checked (TableDef × IndexDef)) → catalog_reaches id (Some X) ≡ false → after tx seq (create_index_change_set m) T ≡ versions_of T id
  index_left tx seq T (Ok x) h = redefined_table (with_index x.0 x.1) id _ ∙ created tx seq [] (index_starts x.0 x.1) T h
  index_left tx seq T (Err e) h = refl

  altered_left : (tx seq : ℕ) (T : Tables) (m : Checked Altered) → catalog_reaches id (Some X) ≡ false → after tx seq (altered_change_set m) T ≡ versions_of T id
  altered_left tx seq T (Ok a) h = redefined_table a.def id _ ∙ created tx seq a.first a.second T h
  altered_left tx seq T (Err e) h = refl

  rows_left : (tx seq : ℕ) (T : Tables) (m : Checked (List Row)) → after tx seq (select_change_set m) T ≡ versions_of T id
  rows_left tx seq T (Ok rows) = refl
  rows_left tx seq T (Err e) = refl

  query_left : (tx seq : ℕ) (T : Tables) (q : Select) (m : Checked NamedPart) → after tx seq (query_change_set T q m) T ≡ versions_of T id
  query_left tx seq T q (Ok n) = rows_left tx seq T (query_rows q n (versions_of T n.0.id))
  query_left tx seq T q (Err e) = refl

-- ---- a table on which no X is wanted

no_rows : (columns : List ColumnDef) (names : Option (List (List ℕ))) (vs : List Version) (rows : List Row) (o : Option (List Key)) (c : Changes) → all_some (map (request.key_inserted columns names) rows) ≡ o
    → list_any (λ w. is_exclusive w.mode) (request.by_keys o) ≡ false → and_then (inserted_rows columns vs names rows) (λ kept. Ok (insertion columns kept)) ≡ Ok c → c.0 ≡ []
unfolding inserted_rows
no_rows columns names vs [] (Some []) c e h k = let is : insertion columns [] ≡ c = cc in ap (λ (d : Changes). d.0) (sym is)
no_rows columns names vs (r ∷ rs) (Some []) c e h k = let p : Parts (request.key_inserted columns names r) (all_some (map (request.key_inserted columns names) rs)) [] = parts _ _ [] e in let no : [] ≡ p.first ∷ p.others = p.are in cc
no_rows columns names vs rows (Some (key ∷ keys)) c e h k = cc
no_rows columns names vs rows None c e h k = cc

always_exclusive : (o : Option Key) → list_any (λ w. is_exclusive w.mode) (request.by_key_or_whole IX X o) ≡ true
always_exclusive (Some key) = refl
always_exclusive None = refl

no_changes : (def : TableDef) (stmt : RowStmt) (vs : List Version) (c : Changes) → list_any (λ w. is_exclusive w.mode) (request.row_requests def stmt) ≡ false → row_changes def vs stmt ≡ Ok c → c.0 ≡ []
unfolding row_changes request.row_requests
no_changes def (Insert table names rows) vs c h e = no_rows def.columns (written_names def names) vs rows (all_some (map (request.key_inserted def.columns (written_names def names)) rows)) c refl h e
no_changes def (Update table sets cond) vs c h e = absurd (not_both h (always_exclusive (key_fixed def.columns cond)))
no_changes def (Delete table cond) vs c h e = absurd (not_both h (always_exclusive (key_fixed def.columns cond)))

module _ (tx seq : ℕ) (T : Tables) (id : ℕ) where
  nothing_left : (cs : List Change) (n : ℕ) → cs ≡ [] → versions_of (changed_from tx seq (in_table n cs) T) id ≡ versions_of T id
  nothing_left cs n e = ap (λ (ds : List Change). versions_of (changed_from tx seq (in_table n ds) T) id) e

  table_by_requests : (stmt : RowStmt) (def : TableDef) (m : Checked Changes) (b : Bool) → row_changes def (versions_of T def.id) stmt ≡ m → (def.id == id) ≡ b
      → (b && list_any (λ w. is_exclusive w.mode) (request.row_requests def stmt)) ≡ false → versions_of (changed_from tx seq (row_change_set def.id m).changes T) id ≡ versions_of T id
  table_by_requests stmt def (Ok c) true e i h = nothing_left c.0 def.id (no_changes def stmt (versions_of T def.id) c h e)
  table_by_requests stmt def (Ok c) false e i h = elsewhere id tx seq (in_table def.id c.0) T (all_in_other id def.id c.0 i)
  table_by_requests stmt def (Err r) b e i h = refl

  change_left : (stmt : RowStmt) (m : Checked TableDef) → cell_reaches_table id (request.row_cell_requests stmt m) ≡ false → versions_of (changed_from tx seq (row_stmt_change_set T stmt m).changes T) id ≡ versions_of T id
  change_left stmt (Ok def) h = table_by_requests stmt def (row_changes def (versions_of T def.id) stmt) (def.id == id) refl refl h
  change_left stmt (Err e) h = refl

  change_definition : (stmt : RowStmt) (m : Checked TableDef) → (carried_out T tx seq (row_stmt_change_set T stmt m)).tables ≡ changed_from tx seq (row_stmt_change_set T stmt m).changes T
  change_definition stmt (Ok def) = by_rows (row_changes def (versions_of T def.id) stmt)
    where
      by_rows : (m : Checked Changes) → (carried_out T tx seq (row_change_set def.id m)).tables ≡ changed_from tx seq (row_change_set def.id m).changes T
      by_rows (Ok c) = refl
      by_rows (Err e) = refl
  change_definition stmt (Err e) = refl

  by_change_set : (stmt : Stmt) → reaches_table id (requests_of (defs_of T) false stmt) ≡ false → versions_of (carried_out T tx seq (change_set T stmt)).tables id ≡ versions_of T id
  unfolding change_set request.cell_requests
  by_change_set (s.Create c) h = table_left id tx seq T (create_check (defs_of T) c) (or_false (catalog_reaches id (Some X)) false h).0
  by_change_set (s.Index c) h = index_left id tx seq T (index_check (defs_of T) c) (or_false (catalog_reaches id (Some X)) false h).0
  by_change_set (s.Alter a) h = altered_left id tx seq T (alteration (defs_of T) (versions_of T tables_id) (versions_of T columns_id) a) (or_false (catalog_reaches id (Some X)) false h).0
  by_change_set (s.Drop name) h = altered_left id tx seq T (table_drop (defs_of T) (versions_of T tables_id) (versions_of T columns_id) name) (or_false (catalog_reaches id (Some X)) false h).0
  by_change_set (s.Change stmt) h = ap (λ (U : Tables). versions_of U id) (change_definition stmt (row_statement_check (defs_of T) stmt)) ∙ change_left stmt (row_statement_check (defs_of T) stmt) h
  by_change_set (s.Select q) h = query_left id tx seq T q (query_check (defs_of T) q)
  by_change_set s.Begin h = refl
  by_change_set s.Commit h = refl
  by_change_set (s.Save name) h = refl
  by_change_set (s.Rollback name) h = refl
  by_change_set s.Digest h = refl
  by_change_set s.Image h = refl

  pub left_table : (stmt : Stmt) → reaches_table id (requests_of (defs_of T) false stmt) ≡ false → versions_of (effect T tx seq stmt).tables id ≡ versions_of T id
  left_table stmt h = ap (λ (e : Effect). versions_of e.tables id) (carries_change_set_out T tx seq stmt) ∙ by_change_set stmt h

  -- ---- a key on which no X is wanted

  module _ (sound : Sound tx seq T) (key : Key) where
    abbrev Left : Tables → Type 0
    Left U = of_key (columns_at (defs_of T) id) key (versions_of U id) ≡ of_key (columns_at (defs_of T) id) key (versions_of T id)

    own_left : (stmt : RowStmt) (def : TableDef) (c : Changes) → row_statement_check (defs_of T) stmt ≡ Ok def → row_changes def (versions_of T def.id) stmt ≡ Ok c
        → (def.id == id && list_any (lets_change key) (request.row_requests def stmt)) ≡ false → def.id ≡ id
        → of_key (columns_at (defs_of T) id) key (changed_all tx seq c.0 (versions_of T id)) ≡ of_key (columns_at (defs_of T) id) key (versions_of T id)
    own_left stmt def c check e h is =
        let has_listing : IsAmongDefs 1 (defs_of T) def = checked_is_listed (defs_of T) stmt def sound.ids check in
        let p : Passed (defs_of T) stmt def = passed (defs_of T) stmt def check in
        let V : List Version = versions_of T def.id in
        let names : repeats (names_of def.columns) ≡ false = subst (λ (cs : List ColumnDef). repeats (names_of cs) ≡ false) has_listing.columns (names_at tx seq def.id T sound.each) in
        let passes : row_check stmt def p.found.1 ≡ Ok tt = subst (λ (d : TableDef). row_check stmt d p.found.1 ≡ Ok tt) p.is p.check in
        let free : list_any (lets_change key) (request.row_requests def stmt) ≡ false = rw (eq-eqb def.id id is) at h in
        let leaves : AllByRecursion (Leaves def.columns key V) c.0 = row_leaves def p.found.1 stmt key V c (rising_at tx seq def.id T sound.each) names passes free e in
        let here : of_key def.columns key (changed_all tx seq c.0 V) ≡ of_key def.columns key V = all_leave def.columns key tx seq c.0 V leaves in
        subst (λ (n : ℕ). of_key (columns_at (defs_of T) n) key (changed_all tx seq c.0 (versions_of T n)) ≡ of_key (columns_at (defs_of T) n) key (versions_of T n)) is
        (subst (λ (cs : List ColumnDef). of_key cs key (changed_all tx seq c.0 V) ≡ of_key cs key V) (sym has_listing.columns) here)

    key_by_requests : (stmt : RowStmt) (def : TableDef) (m : Checked Changes) → row_statement_check (defs_of T) stmt ≡ Ok def → row_changes def (versions_of T def.id) stmt ≡ m
        → (def.id == id && list_any (lets_change key) (request.row_requests def stmt)) ≡ false → Left (changed_from tx seq (row_change_set def.id m).changes T)
    key_by_requests stmt def (Ok c) check e h = subst Left (sym (in_one_table tx seq def.id c.0 T)) (⊎_elim
        (λ (same : versions_of (changed_table def.id (changed_all tx seq c.0) T) id ≡ versions_of T id). ap (of_key (columns_at (defs_of T) id) key) same)
        (λ (own : (def.id ≡ id) × (versions_of (changed_table def.id (changed_all tx seq c.0) T) id ≡ changed_all tx seq c.0 (versions_of T id))).
        ap (of_key (columns_at (defs_of T) id) key) own.1 ∙ own_left stmt def c check e h own.0)
        (changed_at def.id id (changed_all tx seq c.0) T))
    key_by_requests stmt def (Err r) check e h = refl

    change_key : (stmt : RowStmt) (m : Checked TableDef) → row_statement_check (defs_of T) stmt ≡ m → cell_reaches id key (request.row_cell_requests stmt m) ≡ false → Left (changed_from tx seq (row_stmt_change_set T stmt m).changes T)
    change_key stmt (Ok def) check h = key_by_requests stmt def (row_changes def (versions_of T def.id) stmt) check refl h
    change_key stmt (Err e) check h = refl

    by_change_set_key : (stmt : Stmt) → reaches id key (requests_of (defs_of T) false stmt) ≡ false → Left (carried_out T tx seq (change_set T stmt)).tables
    unfolding change_set request.cell_requests
    by_change_set_key (s.Create c) h = ap (of_key (columns_at (defs_of T) id) key) (table_left id tx seq T (create_check (defs_of T) c) (or_false (catalog_reaches id (Some X)) false h).0)
    by_change_set_key (s.Index c) h = ap (of_key (columns_at (defs_of T) id) key) (index_left id tx seq T (index_check (defs_of T) c) (or_false (catalog_reaches id (Some X)) false h).0)
    by_change_set_key (s.Alter a) h = ap (of_key (columns_at (defs_of T) id) key) (altered_left id tx seq T (alteration (defs_of T) (versions_of T tables_id) (versions_of T columns_id) a) (or_false (catalog_reaches id (Some X)) false h).0)
    by_change_set_key (s.Drop name) h = ap (of_key (columns_at (defs_of T) id) key) (altered_left id tx seq T (table_drop (defs_of T) (versions_of T tables_id) (versions_of T columns_id) name) (or_false (catalog_reaches id (Some X)) false h).0)
    by_change_set_key (s.Change stmt) h = subst Left (sym (change_definition stmt (row_statement_check (defs_of T) stmt))) (change_key stmt (row_statement_check (defs_of T) stmt) refl h)
    by_change_set_key (s.Select q) h = ap (of_key (columns_at (defs_of T) id) key) (query_left id tx seq T q (query_check (defs_of T) q))
    by_change_set_key s.Begin h = refl
    by_change_set_key s.Commit h = refl
    by_change_set_key (s.Save name) h = refl
    by_change_set_key (s.Rollback name) h = refl
    by_change_set_key s.Digest h = refl
    by_change_set_key s.Image h = refl

    pub left_key : (stmt : Stmt) → reaches id key (requests_of (defs_of T) false stmt) ≡ false → Left (effect T tx seq stmt).tables
    left_key stmt h = subst (λ (e : Effect). Left e.tables) (sym (carries_change_set_out T tx seq stmt)) (by_change_set_key stmt h)
