-- Beside a script that it doesn't clash with, a statement finds all that it wants as before.
use Rattle.std.proofs.Common.{◌≡◌, ℕ, refl, sym, Bool, true, false, List, [], ◌∷◌, map, Option, Some, None, Ok, Err, arith}
use Rattle.std.specs.Prelude.{◌||◌}
use Rattle.std.specs.List.{AllByRecursion, list_any}
use Rattle.sql_value.specs.declared.column.ColumnDef.{ColumnDef}
use Rattle.sql_types.specs.declared.lock.Mode.{Mode}
use Rattle.sql_types.specs.declared.lock.Mode.TheVariants.{IS, IX, S, X}
use Rattle.sql_types.specs.declared.lock.LockRequest.{LockRequest}
use Rattle.sql_types.specs.declared.statement.Stmt.{Stmt}
use Rattle.sql_types.specs.declared.statement.Stmt.TheVariants as s
use Rattle.sql_types.specs.declared.statement.RowStmt.{RowStmt}
use Rattle.sql_types.specs.declared.statement.RowStmt.TheVariants.{Insert, Update, Delete}
use Rattle.sql_types.specs.declared.statement.Select.{Select}
use Rattle.sql_types.specs.declared.table.TableDef.{TableDef}
use Rattle.sql_types.specs.declared.table.Part.TheVariants.{Base, History, View, System}
use Rattle.spec_model.specs.Refusals.{Checked}
use Rattle.spec_model.specs.Lists.{all_some}
use Rattle.spec_model.specs.Keys.{Key}
use Rattle.spec_model.specs.Where.{key_fixed}
use Rattle.spec_model.specs.Changes.{written_names}
use Rattle.spec_model.specs.Catalog.{NamedPart, Tables, defs_of, versions_of}
use Rattle.spec_model.specs.Checks.{row_statement_check}
use Rattle.spec_model.specs.Query.{query_check}
use Rattle.spec_model.specs.SystemTables.{tables_id, columns_id}
use Rattle.spec_model.specs.Locks as request
use Rattle.spec_model.specs.Agreement.{AgreeOn, AgreeOnAll, AgreeInCell, AgreeInCatalog, SameCatalog, columns_at, AgreeFor, requests_of}
use Rattle.spec_model.specs.Runs.{Sound}
use Rattle.spec_model.specs.Script.{Reading, script}
use Rattle.spec_model.specs.NoClash.{text_clash}
use Rattle.law_frame.proofs.SameKeys.{or_false}
use Rattle.law_frame.proofs.Definitions.{opened_keep_defs}
use Rattle.law_frame.proofs.LeftScripts.{script_leaves_key, script_leaves_table}
use Rattle.law_frame.proofs.NoClash.{Intends, Free, key_texts, whole_texts, system_texts}

module _ (reads : Reading) (T : Tables) (tx : ℕ) (texts : List (List ℕ)) (sound : Sound tx 0 T) where
  abbrev after : Tables
  after = (script reads true T tx texts).state.tables

  catalog_stays : SameCatalog T after
  catalog_stays = record {
    definitions = sym (opened_keep_defs reads T tx texts).tables;
    tables = sym (script_leaves_table tx T tables_id reads texts (system_texts (defs_of T) tables_id reads texts (omega arith)));
    columns = sym (script_leaves_table tx T columns_id reads texts (system_texts (defs_of T) columns_id reads texts (omega arith)));
  }

  in_catalog : (m : Option Mode) → AgreeInCatalog m T after
  in_catalog None = tt
  in_catalog (Some IS) = tt
  in_catalog (Some IX) = tt
  in_catalog (Some S) = catalog_stays
  in_catalog (Some X) = catalog_stays

  module _ (a : Stmt) (p : Bool) (ok : AllByRecursion (λ t. text_clash (defs_of T) p a true (reads t) ≡ false) texts) (id : ℕ) (ws : List LockRequest) (cell : request.cell_requests (defs_of T) a ≡ Some (id, ws)) where
    abbrev columns : List ColumnDef
    columns = columns_at (defs_of T) id

    on_intent : (i : Mode) → Intends i → AgreeOn columns (versions_of T id) (versions_of after id) (request.whole i)
    on_intent IS h = tt
    on_intent IX h = tt
    on_intent S h = absurd h
    on_intent X h = absurd h

    on_key : (i m : Mode) (key : Key) → ((vs : List LockRequest) → request.some_conflict ws vs ≡ false → Free i m key vs) → AgreeOn columns (versions_of T id) (versions_of after id) (request.of_key m key)
    on_key i IS key free = tt
    on_key i IX key free = tt
    on_key i S key free = sym (script_leaves_key tx T id key reads texts sound (key_texts (defs_of T) id a p ws cell i S key free reads texts ok))
    on_key i X key free = sym (script_leaves_key tx T id key reads texts sound (key_texts (defs_of T) id a p ws cell i X key free reads texts ok))

    on_whole : (m : Mode) → ((vs : List LockRequest) → request.some_conflict ws vs ≡ false → list_any (request.requests_conflict (request.whole m)) vs ≡ false) → AgreeOn columns (versions_of T id) (versions_of after id) (request.whole m)
    on_whole IS free = tt
    on_whole IX free = tt
    on_whole S free = sym (script_leaves_table tx T id reads texts (whole_texts (defs_of T) id a p ws cell S tt free reads texts ok))
    on_whole X free = sym (script_leaves_table tx T id reads texts (whole_texts (defs_of T) id a p ws cell X tt free reads texts ok))

    on_keys : (keys : List Key) → ((vs : List LockRequest) → request.some_conflict ws vs ≡ false → list_any (request.requests_conflict (request.whole IX)) vs ≡ false)
        → ((vs : List LockRequest) → request.some_conflict ws vs ≡ false → request.some_conflict (map (request.of_key X) keys) vs ≡ false)
        → AgreeOnAll columns (map (request.of_key X) keys) (versions_of T id) (versions_of after id)
    on_keys [] whole each = tt
    on_keys (k ∷ ks) whole each = (
      on_key IX X k (λ vs h. (whole vs h, (or_false (list_any (request.requests_conflict (request.of_key X k)) vs) (request.some_conflict (map (request.of_key X) ks) vs) (each vs h)).0)),
      on_keys ks whole (λ vs h. (or_false (list_any (request.requests_conflict (request.of_key X k)) vs) (request.some_conflict (map (request.of_key X) ks) vs) (each vs h)).1),
    )

  module _ (a : Stmt) (p : Bool) (ok : AllByRecursion (λ t. text_clash (defs_of T) p a true (reads t) ≡ false) texts) (id : ℕ) where
    abbrev AllOf : List LockRequest → Type 0
    AllOf ws = request.cell_requests (defs_of T) a ≡ Some (id, ws) → AgreeOnAll (columns_at (defs_of T) id) ws (versions_of T id) (versions_of after id)

    whole_alone : (m : Mode) → AllOf (request.whole m ∷ [])
    whole_alone m cell = (on_whole a p ok id (request.whole m ∷ []) cell m (λ vs h. (or_false (list_any (request.requests_conflict (request.whole m)) vs) false h).0), tt)

    by_key : (i m : Mode) → Intends i → (o : Option Key) → AllOf (request.by_key_or_whole i m o)
    by_key i m h (Some key) cell = (
      on_intent a p ok id (request.by_key_or_whole i m (Some key)) cell i h,
      (
        on_key a p ok id (request.by_key_or_whole i m (Some key)) cell i m key (λ vs c.
            let q = or_false (list_any (request.requests_conflict (request.whole i)) vs) (list_any (request.requests_conflict (request.of_key m key)) vs || false) c in
            (q.0, (or_false (list_any (request.requests_conflict (request.of_key m key)) vs) false q.1).0)),
        tt,
      ),
    )
    by_key i m h None cell = whole_alone m cell

    by_keys : (o : Option (List Key)) → AllOf (request.by_keys o)
    by_keys (Some keys) cell = (
      tt,
      on_keys a p ok id (request.by_keys (Some keys)) cell keys
          (λ vs c. (or_false (list_any (request.requests_conflict (request.whole IX)) vs) (request.some_conflict (map (request.of_key X) keys) vs) c).0)
          (λ vs c. (or_false (list_any (request.requests_conflict (request.whole IX)) vs) (request.some_conflict (map (request.of_key X) keys) vs) c).1),
    )
    by_keys None cell = whole_alone X cell

    by_row : (def : TableDef) (stmt : RowStmt) → AllOf (request.row_requests def stmt)
    unfolding request.row_requests
    by_row def (Insert table names rows) = by_keys (all_some (map (request.key_inserted def.columns (written_names def names)) rows))
    by_row def (Update table sets cond) = by_key IX X tt (key_fixed def.columns cond)
    by_row def (Delete table cond) = by_key IX X tt (key_fixed def.columns cond)

    by_query : (n : NamedPart) (q : Select) → AllOf (request.query_requests n q)
    unfolding request.query_requests
    by_query (def, Base) q = by_key IS S tt (key_fixed def.columns q.cond)
    by_query (def, History) q = whole_alone S
    by_query (def, View) q = whole_alone S
    by_query (def, System) q = λ cell. tt

  module _ (a : Stmt) (p : Bool) (ok : AllByRecursion (λ t. text_clash (defs_of T) p a true (reads t) ≡ false) texts) where
    in_row_cell : (stmt : RowStmt) (m : Checked TableDef) → request.cell_requests (defs_of T) a ≡ request.row_cell_requests stmt m → AgreeInCell (request.row_cell_requests stmt m) T after
    in_row_cell stmt (Ok def) e = by_row a p ok def.id def stmt e
    in_row_cell stmt (Err r) e = tt

    in_query_cell : (q : Select) (m : Checked NamedPart) → request.cell_requests (defs_of T) a ≡ request.query_cell_requests q m → AgreeInCell (request.query_cell_requests q m) T after
    in_query_cell q (Ok n) e = by_query a p ok n.0.id n q e
    in_query_cell q (Err r) e = tt

    in_cell : (b : Stmt) → request.cell_requests (defs_of T) a ≡ request.cell_requests (defs_of T) b → AgreeInCell (request.cell_requests (defs_of T) b) T after
    unfolding request.cell_requests
    in_cell (s.Create c) e = tt
    in_cell (s.Index c) e = tt
    in_cell (s.Alter b) e = tt
    in_cell (s.Drop name) e = tt
    in_cell (s.Change stmt) e = in_row_cell stmt (row_statement_check (defs_of T) stmt) e
    in_cell (s.Select q) e = in_query_cell q (query_check (defs_of T) q) e
    in_cell s.Begin e = tt
    in_cell s.Commit e = tt
    in_cell (s.Save name) e = tt
    in_cell (s.Rollback name) e = tt
    in_cell s.Digest e = tt
    in_cell s.Image e = tt

    pub beside : AgreeFor T after (requests_of (defs_of T) p a)
    beside = record { catalog = in_catalog (request.catalog_request p a); cell = in_cell a refl }
