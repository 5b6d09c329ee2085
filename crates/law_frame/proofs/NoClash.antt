-- A script that doesn't clash with a statement leaves all that the statement wants.
use Rattle.std.proofs.Common.{◌≡◌, ℕ, ◌≤◌, refl, sym, subst, ◌∙◌, Bool, true, false, List, [], ◌∷◌, map, Option, Some, None, Ok, Err, arith}
use Rattle.std.proofs.lemmas.Bool.{eqb-true, eq-eqb, ne_eqb}
use Rattle.std.specs.Prelude.{◌==◌, ◌&&◌, ◌||◌}
use Rattle.std.specs.List.{AllByRecursion, list_any}
use Rattle.sql_types.specs.declared.lock.Mode.{Mode}
use Rattle.sql_types.specs.declared.lock.Mode.TheVariants.{IS, IX, S, X}
use Rattle.sql_types.specs.declared.lock.LockRequest.{LockRequest}
use Rattle.sql_types.specs.declared.statement.Stmt.{Stmt}
use Rattle.sql_types.specs.declared.statement.Stmt.TheVariants as s
use Rattle.sql_types.specs.declared.statement.RowStmt.{RowStmt}
use Rattle.sql_types.specs.declared.statement.RowStmt.TheVariants.{Insert, Update, Delete}
use Rattle.sql_types.specs.declared.statement.Select.{Select}
use Rattle.sql_types.specs.declared.table.TableDef.{TableDef}
use Rattle.sql_types.specs.declared.table.Part.TheVariants.{Base, History, View, System}
use Rattle.spec_model.specs.Refusals.{Checked}
use Rattle.spec_model.specs.Lists.{all_some}
use Rattle.spec_model.specs.Keys.{Key, same_key}
use Rattle.spec_model.specs.Where.{key_fixed}
use Rattle.spec_model.specs.Changes.{written_names}
use Rattle.spec_model.specs.Catalog.{Defs, NamedPart}
use Rattle.spec_model.specs.Checks.{row_statement_check}
use Rattle.spec_model.specs.Query.{query_check}
use Rattle.spec_model.specs.Locks as request
use Rattle.spec_model.specs.Reach.{lets_change, is_exclusive, cell_reaches, cell_reaches_table, catalog_reaches, reaches, reaches_table}
use Rattle.spec_model.specs.Script.{Reading}
use Rattle.spec_model.specs.ScriptRequests.{text_requests, script_requests}
use Rattle.spec_model.specs.NoClash.{text_clash}
use Rattle.law_frame.proofs.SameKeys.{or_false, same_key_as, same_itself}
use Rattle.law_frame.proofs.BaseTables.{users_table}

not_both : {b : Bool} → b ≡ false → b ≡ true → ⊥
not_both h k = cc

and_false_left : (a b : Bool) → a ≡ false → (a && b) ≡ false
and_false_left a b e = rw e refl

-- ---- keys

turned : (a b : Key) (p q : Bool) → same_key a b ≡ p → same_key b a ≡ q → p ≡ false → q ≡ false
turned a b p true e f h = absurd (not_both (e ∙ h) (sym (same_key_as b a b f) ∙ same_itself b))
turned a b p false e f h = refl

unlike_too : (a b : Key) → same_key a b ≡ false → same_key b a ≡ false
unlike_too a b h = turned a b (same_key a b) (same_key b a) refl refl h

-- ---- modes that rely on something

abbrev pub Relies : Mode → Type 0
Relies S = Unit {0}
Relies X = Unit {0}
Relies _ = ⊥

abbrev pub Intends : Mode → Type 0
Intends IS = Unit {0}
Intends IX = Unit {0}
Intends _ = ⊥

-- a row statement conflicts with who relies on the whole table
head_conflicts : (m n : Mode) (ws : List LockRequest) → request.conflict m n ≡ true → list_any (request.requests_conflict (request.whole m)) (request.whole n ∷ ws) ≡ true
unfolding request.same_item
head_conflicts m n ws e = rw e refl

relies_conflicts : (m : Mode) → Relies m → request.conflict m IX ≡ true
unfolding request.conflict
relies_conflicts S r = refl
relies_conflicts X r = refl
relies_conflicts IS r = absurd r
relies_conflicts IX r = absurd r

x_conflicts : (m : Mode) → request.conflict m X ≡ true
unfolding request.conflict
x_conflicts IS = refl
x_conflicts IX = refl
x_conflicts S = refl
x_conflicts X = refl

by_key_conflicts : (m : Mode) (o : Option Key) → Relies m → list_any (request.requests_conflict (request.whole m)) (request.by_key_or_whole IX X o) ≡ true
by_key_conflicts m (Some key) r = head_conflicts m IX (request.of_key X key ∷ []) (relies_conflicts m r)
by_key_conflicts m None r = head_conflicts m X [] (x_conflicts m)

by_keys_conflict : (m : Mode) (o : Option (List Key)) → Relies m → list_any (request.requests_conflict (request.whole m)) (request.by_keys o) ≡ true
by_keys_conflict m (Some keys) r = head_conflicts m IX (map (request.of_key X) keys) (relies_conflicts m r)
by_keys_conflict m None r = head_conflicts m X [] (x_conflicts m)

row_conflicts : (m : Mode) (def : TableDef) (stmt : RowStmt) → Relies m → list_any (request.requests_conflict (request.whole m)) (request.row_requests def stmt) ≡ true
unfolding request.row_requests
row_conflicts m def (Insert table names rows) r = by_keys_conflict m (all_some (map (request.key_inserted def.columns (written_names def names)) rows)) r
row_conflicts m def (Update table sets cond) r = by_key_conflicts m (key_fixed def.columns cond) r
row_conflicts m def (Delete table cond) r = by_key_conflicts m (key_fixed def.columns cond) r

-- ---- a key

module _ (i m : Mode) (key : Key) where
  abbrev pub Free : List LockRequest → Type 0
  Free vs = (list_any (request.requests_conflict (request.whole i)) vs ≡ false) × (list_any (request.requests_conflict (request.of_key m key)) vs ≡ false)

  keys_free : (keys : List Key) → list_any (request.requests_conflict (request.of_key m key)) (map (request.of_key X) keys) ≡ false → list_any (lets_change key) (map (request.of_key X) keys) ≡ false
  unfolding request.same_item
  keys_free [] h = refl
  keys_free (k ∷ ks) h =
      let p = or_false (same_key key k && request.conflict m X) (list_any (request.requests_conflict (request.of_key m key)) (map (request.of_key X) ks)) h in
      let q : same_key key k ≡ false = only (same_key key k) (request.conflict m X) (x_conflicts m) p.0 in
      rw (unlike_too key k q) (keys_free ks p.1)
    where
      only : (a b : Bool) → b ≡ true → (a && b) ≡ false → a ≡ false
      only true b e f = absurd (not_both f e)
      only false b e f = refl

  by_keys_free : (o : Option (List Key)) → Free (request.by_keys o) → list_any (lets_change key) (request.by_keys o) ≡ false
  unfolding request.same_item
  by_keys_free (Some keys) h = keys_free keys h.1
  by_keys_free None h = absurd (not_both h.0 (head_conflicts i X [] (x_conflicts i)))

  by_key_free : (o : Option Key) → Free (request.by_key_or_whole IX X o) → list_any (lets_change key) (request.by_key_or_whole IX X o) ≡ false
  by_key_free (Some k) h = by_keys_free (Some (k ∷ [])) h
  by_key_free None h = by_keys_free None h

  row_free : (def : TableDef) (stmt : RowStmt) → Free (request.row_requests def stmt) → list_any (lets_change key) (request.row_requests def stmt) ≡ false
  unfolding request.row_requests
  row_free def (Insert table names rows) h = by_keys_free (all_some (map (request.key_inserted def.columns (written_names def names)) rows)) h
  row_free def (Update table sets cond) h = by_key_free (key_fixed def.columns cond) h
  row_free def (Delete table cond) h = by_key_free (key_fixed def.columns cond) h

-- ---- a SELECT changes nothing

reads_by_key : (key : Key) (o : Option Key) → list_any (lets_change key) (request.by_key_or_whole IS S o) ≡ false
reads_by_key key (Some k) = refl
reads_by_key key None = refl

only_reads : (key : Key) (n : NamedPart) (q : Select) → list_any (lets_change key) (request.query_requests n q) ≡ false
unfolding request.query_requests
only_reads key (def, Base) q = reads_by_key key (key_fixed def.columns q.cond)
only_reads key (def, History) q = refl
only_reads key (def, View) q = refl
only_reads key (def, System) q = refl

shares_by_key : (o : Option Key) → list_any (λ w. is_exclusive w.mode) (request.by_key_or_whole IS S o) ≡ false
shares_by_key (Some k) = refl
shares_by_key None = refl

only_shares : (n : NamedPart) (q : Select) → list_any (λ w. is_exclusive w.mode) (request.query_requests n q) ≡ false
unfolding request.query_requests
only_shares (def, Base) q = shares_by_key (key_fixed def.columns q.cond)
only_shares (def, History) q = refl
only_shares (def, View) q = refl
only_shares (def, System) q = refl

and_no : (b c : Bool) → c ≡ false → (b && c) ≡ false
and_no true c e = e
and_no false c e = refl

or_no : (b c : Bool) → b ≡ false → c ≡ false → (b || c) ≡ false
or_no true c e f = cc
or_no false c e f = f

-- in a transaction that BEGIN opened nobody changes the system tables
no_catalog : (id : ℕ) (b : Stmt) → catalog_reaches id (request.catalog_request true b) ≡ false
no_catalog id (s.Create c) = refl
no_catalog id (s.Index c) = refl
no_catalog id (s.Alter b) = refl
no_catalog id (s.Drop name) = refl
no_catalog id (s.Change stmt) = refl
no_catalog id (s.Select q) = refl
no_catalog id s.Begin = refl
no_catalog id s.Commit = refl
no_catalog id (s.Save name) = refl
no_catalog id (s.Rollback name) = refl
no_catalog id s.Digest = refl
no_catalog id s.Image = refl

module _ (defs : Defs) (id : ℕ) where
  other_way : (n : ℕ) → (n == id) ≡ true → (id == n) ≡ true
  other_way n e = eq-eqb id n (sym (eqb-true n id e))

  -- ---- the system tables

  system_row : (stmt : RowStmt) (m : Checked TableDef) → row_statement_check defs stmt ≡ m → id ≤ 2 → cell_reaches_table id (request.row_cell_requests stmt m) ≡ false
  system_row stmt (Ok def) e le = and_false_left (def.id == id) _ (ne_eqb def.id id (λ same. absurd (omega (arith, users_table defs stmt def e, same, le))))
  system_row stmt (Err r) e le = refl

  query_table : (q : Select) (m : Checked NamedPart) → cell_reaches_table id (request.query_cell_requests q m) ≡ false
  query_table q (Ok n) = and_no (n.0.id == id) _ (only_shares n q)
  query_table q (Err r) = refl

  system_cell : (b : Stmt) → id ≤ 2 → cell_reaches_table id (request.cell_requests defs b) ≡ false
  unfolding request.cell_requests
  system_cell (s.Create c) le = refl
  system_cell (s.Index c) le = refl
  system_cell (s.Alter b) le = refl
  system_cell (s.Drop name) le = refl
  system_cell (s.Change stmt) le = system_row stmt (row_statement_check defs stmt) refl le
  system_cell (s.Select q) le = query_table q (query_check defs q)
  system_cell s.Begin le = refl
  system_cell s.Commit le = refl
  system_cell (s.Save name) le = refl
  system_cell (s.Rollback name) le = refl
  system_cell s.Digest le = refl
  system_cell s.Image le = refl

  system_text : (o : Option Stmt) → id ≤ 2 → reaches_table id (text_requests defs true o) ≡ false
  system_text None le = refl
  system_text (Some b) le = or_no (catalog_reaches id (request.catalog_request true b)) _ (no_catalog id b) (system_cell b le)

  module _ (a : Stmt) (p : Bool) (ws : List LockRequest) (cell : request.cell_requests defs a ≡ Some (id, ws)) where
    cells_free : (b : Stmt) → text_clash defs p a true (Some b) ≡ false → request.cells_clash (Some (id, ws)) (request.cell_requests defs b) ≡ false
    unfolding request.clash
    cells_free b h = subst (λ (c : request.CellRequests). request.cells_clash c (request.cell_requests defs b) ≡ false) cell
        (or_false (request.catalog_clash (request.catalog_request p a) (request.catalog_request true b)) (request.cells_clash (request.cell_requests defs a) (request.cell_requests defs b)) h).1

    -- ---- a key

    module _ (i m : Mode) (key : Key) (free : (vs : List LockRequest) → request.some_conflict ws vs ≡ false → Free i m key vs) where
      key_row : (stmt : RowStmt) (c : Checked TableDef) → request.cells_clash (Some (id, ws)) (request.row_cell_requests stmt c) ≡ false → cell_reaches id key (request.row_cell_requests stmt c) ≡ false
      key_row stmt (Ok def) h = here (def.id == id) refl
        where
          here : (b : Bool) → (def.id == id) ≡ b → (b && list_any (lets_change key) (request.row_requests def stmt)) ≡ false
          here true e = row_free i m key def stmt (free (request.row_requests def stmt) (rw (other_way def.id e) at h))
          here false e = refl
      key_row stmt (Err r) h = refl

      key_query : (q : Select) (c : Checked NamedPart) → cell_reaches id key (request.query_cell_requests q c) ≡ false
      key_query q (Ok n) = and_no (n.0.id == id) _ (only_reads key n q)
      key_query q (Err r) = refl

      key_cell : (b : Stmt) → request.cells_clash (Some (id, ws)) (request.cell_requests defs b) ≡ false → cell_reaches id key (request.cell_requests defs b) ≡ false
      unfolding request.cell_requests
      key_cell (s.Create c) h = refl
      key_cell (s.Index c) h = refl
      key_cell (s.Alter b) h = refl
      key_cell (s.Drop name) h = refl
      key_cell (s.Change stmt) h = key_row stmt (row_statement_check defs stmt) h
      key_cell (s.Select q) h = key_query q (query_check defs q)
      key_cell s.Begin h = refl
      key_cell s.Commit h = refl
      key_cell (s.Save name) h = refl
      key_cell (s.Rollback name) h = refl
      key_cell s.Digest h = refl
      key_cell s.Image h = refl

      key_text : (o : Option Stmt) → text_clash defs p a true o ≡ false → reaches id key (text_requests defs true o) ≡ false
      key_text None h = refl
      key_text (Some b) h = or_no (catalog_reaches id (request.catalog_request true b)) _ (no_catalog id b) (key_cell b (cells_free b h))

      pub key_texts : (reads : Reading) (texts : List (List ℕ)) → AllByRecursion (λ t. text_clash defs p a true (reads t) ≡ false) texts → AllByRecursion (λ w. reaches id key w ≡ false) (script_requests reads defs true texts)
      key_texts reads [] h = tt
      key_texts reads (t ∷ ts) h = (key_text (reads t) h.0, key_texts reads ts h.1)

    -- ---- the whole table

    module _ (m : Mode) (relies : Relies m) (free : (vs : List LockRequest) → request.some_conflict ws vs ≡ false → list_any (request.requests_conflict (request.whole m)) vs ≡ false) where
      whole_row : (stmt : RowStmt) (c : Checked TableDef) → request.cells_clash (Some (id, ws)) (request.row_cell_requests stmt c) ≡ false → cell_reaches_table id (request.row_cell_requests stmt c) ≡ false
      whole_row stmt (Ok def) h = here (def.id == id) refl
        where
          here : (b : Bool) → (def.id == id) ≡ b → (b && list_any (λ w. is_exclusive w.mode) (request.row_requests def stmt)) ≡ false
          here true e = absurd (not_both (free (request.row_requests def stmt) (rw (other_way def.id e) at h)) (row_conflicts m def stmt relies))
          here false e = refl
      whole_row stmt (Err r) h = refl

      whole_cell : (b : Stmt) → request.cells_clash (Some (id, ws)) (request.cell_requests defs b) ≡ false → cell_reaches_table id (request.cell_requests defs b) ≡ false
      unfolding request.cell_requests
      whole_cell (s.Create c) h = refl
      whole_cell (s.Index c) h = refl
      whole_cell (s.Alter b) h = refl
      whole_cell (s.Drop name) h = refl
      whole_cell (s.Change stmt) h = whole_row stmt (row_statement_check defs stmt) h
      whole_cell (s.Select q) h = query_table q (query_check defs q)
      whole_cell s.Begin h = refl
      whole_cell s.Commit h = refl
      whole_cell (s.Save name) h = refl
      whole_cell (s.Rollback name) h = refl
      whole_cell s.Digest h = refl
      whole_cell s.Image h = refl

      whole_text : (o : Option Stmt) → text_clash defs p a true o ≡ false → reaches_table id (text_requests defs true o) ≡ false
      whole_text None h = refl
      whole_text (Some b) h = or_no (catalog_reaches id (request.catalog_request true b)) _ (no_catalog id b) (whole_cell b (cells_free b h))

      pub whole_texts : (reads : Reading) (texts : List (List ℕ)) → AllByRecursion (λ t. text_clash defs p a true (reads t) ≡ false) texts → AllByRecursion (λ w. reaches_table id w ≡ false) (script_requests reads defs true texts)
      whole_texts reads [] h = tt
      whole_texts reads (t ∷ ts) h = (whole_text (reads t) h.0, whole_texts reads ts h.1)

  pub system_texts : (reads : Reading) (texts : List (List ℕ)) → id ≤ 2 → AllByRecursion (λ w. reaches_table id w ≡ false) (script_requests reads defs true texts)
  system_texts reads [] le = tt
  system_texts reads (t ∷ ts) le = (system_text (reads t) le, system_texts reads ts le)
