-- What is known of a table's cell that a seat found in the catalog, by what holds of cells and seats that stand together.
use Rattle.std.proofs.Common.{◌≡◌, ℕ, ◌≤◌, Bool, true, false, List, [], ◌∷◌, ◌++◌, length, map, Option, Some, None, Ok, Err, refl, sym, ap, ◌∙◌, subst, inl, inr, ⊎_elim}
use Rattle.std.proofs.lemmas.List.{map-append}
use Rattle.std.specs.Prelude.{◌==◌, not, if◌then◌else◌}
use mathlib.Core.Option.{some}
use lib.ListN.{get_elem?}
use Rattle.sql_value.specs.declared.column.ColumnDef.{ColumnDef}
use Rattle.sql_value.specs.declared.refusal.Refusal.TheVariants.{NoSuchTable}
use Rattle.sql_types.specs.declared.statement.RowStmt.{RowStmt}
use Rattle.sql_types.specs.declared.statement.RowStmt.TheVariants.{Insert, Update, Delete}
use Rattle.sql_types.specs.declared.statement.Select.{Select}
use Rattle.sql_types.specs.declared.statement.Stmt.{Stmt}
use Rattle.sql_types.specs.declared.statement.Stmt.TheVariants as stmt
use Rattle.sql_types.specs.declared.lock.Mode.TheVariants.{X}
use Rattle.sql_types.specs.declared.table.IndexDef.{IndexDef}
use Rattle.sql_types.specs.declared.table.TableDef.{TableDef}
use Rattle.sql_types.specs.declared.version.Version.{Version}
use Rattle.spec_model.specs.Agreement.{IdsFrom, columns_at}
use Rattle.spec_model.specs.Catalog.{Defs, NamedPart, Tables, defs_of, find_part}
use Rattle.spec_model.specs.Checks as checks
use Rattle.spec_model.specs.Checks.{row_statement_check}
use Rattle.spec_model.specs.Limits.{max_columns}
use Rattle.spec_model.specs.Keys.{key_places}
use Rattle.spec_model.specs.Locks.{whole}
use Rattle.spec_model.specs.Parts.{columns_of}
use Rattle.spec_model.specs.ChangeSets.{defined, change_set}
use Rattle.spec_model.specs.Query.{query_check, select_check}
use Rattle.spec_model.specs.Refusals.{Checked, and_then, or_refused}
use Rattle.spec_model.specs.Runs.{MadeBefore}
use Rattle.law_frame.proofs.AgreeAfter.{has_table}
use Rattle.law_frame.proofs.NamedPart.{found_is_listed}
use Rattle.law_journal.specs.Fits.{FitsSoFar}
use Rattle.law_journal.proofs.Serials.{legal_described}
use Rattle.server_session.specs.Lists.{Text, Each, In}
use Rattle.server_session.specs.Transactions.{unfixed}
use Rattle.server_session.specs.Answering.{error_of, refused_by_check}
use Rattle.server_session.specs.Cells.{Cell, Rows, TableCell, catalog_at, cell_of, versions_at, versions_found}
use Rattle.server_session.specs.Contents.{HasAlone, contents, table_found}
use Rattle.server_session.specs.LocksCover.{IsAfter, name_of}
use Rattle.server_session.specs.OpenOnes.{HasOpen}
use Rattle.server_session.specs.OpenScripts.{counted}
use Rattle.server_session.specs.Seats.{OpenTransaction, inside, made, SessionStatus, Session, session, SeatState}
use Rattle.server_session.specs.Server.{Server}
use Rattle.server_session.specs.StandTogether.{History, Stands}
use Rattle.server_session.specs.TablesAreSerial.{HasAdded, IsAdding, def_at, ordinals_of}
use Rattle.law_protocol_steps.proofs.CatalogAlone.{alone}
use Rattle.law_protocol_steps.proofs.DefsAfter.{IndexMade, index_made}
use Rattle.law_protocol_steps.proofs.Defined.{IsDefined, is_defined}
use Rattle.law_protocol_steps.proofs.NewLine.{found_alone, has_found}
use Rattle.law_protocol_steps.proofs.OfCells.{Creates, HasLock, HasLooked, HoldsInCatalog, IsGotAt, StandsAs, TableStands, in_journal, looked_now}
use Rattle.law_protocol_steps.proofs.RowsFor.{sound}
use Rattle.law_protocol_steps.proofs.SeatIds.{one_seat}
use Rattle.law_protocol_steps.proofs.Takes.{tables_now}
use Rattle.store_table.specs.Calls.{HasFit, IsTable, LacksLast}

-- ---- what is checked before any row

passed : {A : Type 0} (m : Checked A) (def : TableDef) → error_of (and_then m (λ a. Ok def)) ≡ None → and_then m (λ a. Ok def) ≡ Ok def
passed (Ok a) def e = refl
passed (Err r) def e = cc

passed_named : {A : Type 0} (m : Checked A) (n : NamedPart) → error_of (and_then m (λ a. Ok n)) ≡ None → and_then m (λ a. Ok n) ≡ Ok n
passed_named (Ok a) n e = refl
passed_named (Err r) n e = cc

row_passes : (named : NamedPart) (row : RowStmt) → find_part (named.0 ∷ []) (checks.table_of row) ≡ Some named → error_of (row_statement_check (named.0 ∷ []) row) ≡ None → row_statement_check (named.0 ∷ []) row ≡ Ok named.0
unfolding row_statement_check
row_passes named row f e = same ∙ passed (checks.row_check row named.0 named.1) named.0 (ap error_of (sym same) ∙ e)
  where
    same : row_statement_check (named.0 ∷ []) row ≡ and_then (checks.row_check row named.0 named.1) (λ a. Ok named.0)
    same = ap (λ (o : Option NamedPart). and_then (or_refused NoSuchTable o) (λ n. and_then (checks.row_check row n.0 n.1) (λ a. Ok n.0))) f

query_passes : (named : NamedPart) (q : Select) → find_part (named.0 ∷ []) q.table ≡ Some named → error_of (query_check (named.0 ∷ []) q) ≡ None → query_check (named.0 ∷ []) q ≡ Ok named
unfolding query_check
query_passes named q f e = same ∙ passed_named (select_check (columns_of named.0 named.1) q) named (ap error_of (sym same) ∙ e)
  where
    same : query_check (named.0 ∷ []) q ≡ and_then (select_check (columns_of named.0 named.1) q) (λ a. Ok named)
    same = ap (λ (o : Option NamedPart). and_then (or_refused NoSuchTable o) (λ n. and_then (select_check (columns_of n.0 n.1) q) (λ a. Ok n))) f

-- what a definition that is there is like
def_like : (P : TableDef → Type 0) (defs : Defs) (id : ℕ) (def : TableDef) → Each P defs → def_at defs id ≡ Some def → P def
def_like P [] id def h e = cc
def_like P (d ∷ defs) id def h e = by (d.id == id) e (def_like P defs id def h.1)
  where
    by : (b : Bool) → (if b then Some d else def_at defs id) ≡ Some def → (def_at defs id ≡ Some def → P def) → P def
    by true f rest = let same : d ≡ def = cc in subst P same h.0
    by false f rest = rest f

module _ (v : Server) (cells : List Cell) (seats : List SeatState) {history : History} (S : Stands v history cells seats) (j : ℕ) (x : Session) (o : OpenTransaction) (has : HasOpen seats j x o) (free : o.end ≡ unfixed) where
  abbrev pub T : Tables
  T = tables_now S

  -- it visited the catalog, in which it has a lock
  same_session : (n : ℕ) (y : Session) (p : OpenTransaction) → j ≡ n → HasOpen seats n y p → x ≡ y
  same_session n y p e h =
      let f : some has.seat ≡ some h.seat = sym has.there ∙ ap (get_elem? seats) e ∙ h.there in
      let g : has.seat ≡ h.seat = cc in
      let r : session x ≡ session y = sym has.role ∙ ap (λ (s : SeatState). s.role) g ∙ h.role in
      cc

  same_one : (n : ℕ) (y : Session) (p : OpenTransaction) → j ≡ n → HasOpen seats n y p → p ≡ o
  same_one n y p e h =
      let u : Some o ≡ Some p = sym has.open_one ∙ ap (λ (z : Session). z.open_one) (same_session n y p e h) ∙ h.open_one in
      cc

  pub visited_by_lock : HasLock cells catalog_at o.id → In catalog_at o.visited
  visited_by_lock l =
      let b = S.locks_cover.belong catalog_at l.hold l.has in
      let n : j ≡ b.j = one_seat v cells seats S j b.j x b.x o b.o has b.has (sym (b.mine ∙ l.mine)) in
      subst (λ (p : OpenTransaction). In catalog_at p.visited) (same_one b.j b.x b.o n b.has) b.visited

  pub looked_at : (place : SessionStatus) → x.place ≡ place → HasLooked place → HoldsInCatalog v cells T place o
  looked_at place e h = subst (λ (q : SessionStatus). HoldsInCatalog v cells T q o) e (looked_now v cells T o x.place (S.locks_cover.looked j x o has free) (subst HasLooked (sym e) h))

  pub got_at : (place : SessionStatus) → x.place ≡ place → HasLooked place → IsGotAt v cells T o.id (not (in_journal S.ledger.items (o.id, 0))) place
  got_at place e h = subst (IsGotAt v cells T o.id (not (in_journal S.ledger.items (o.id, 0)))) e (S.locks_cover.got j x o has (looked_at place e h).lock)

  pub ids : IdsFrom 1 (defs_of T)
  ids = (sound v cells seats S j x o has free).ids

  module _ (i : ℕ) (c : TableCell) (out : get_elem? cells i ≡ some (Rows c)) (here : cell_of c.id ≡ i) where
    pub versions_are : versions_at cells c.id ≡ c.versions
    versions_are = ap (versions_found c.id) (ap (get_elem? cells) here ∙ out)

    pub before : (place : SessionStatus) → x.place ≡ place → 1 ≤ c.id → Each (MadeBefore o.id o.seq) (counted o.id c.id place c.versions)
    before place e one = subst (λ (vs : List Version). Each (MadeBefore o.id o.seq) (counted o.id c.id place vs)) versions_are
        (subst (λ (q : SessionStatus). Each (MadeBefore o.id o.seq) (counted o.id c.id q (versions_at cells c.id))) e (S.rows_agree.before j x o has free c.id one))

    -- the table's definition in the journal
    pub stands_as : (def : TableDef) → def_at (defs_of T) c.id ≡ Some def → TableStands v cells seats S.ledger c def
    stands_as def e = subst (StandsAs v cells seats S.ledger c) e (S.tables_are_serial.tables i c (ap table_found out))

    pub is_table_of : (def old : TableDef) → def.id ≡ c.id → def_at (defs_of T) c.id ≡ Some old → old.columns ≡ def.columns → IsTable c def
    is_table_of def old id e same = record {
      here = id;
      key = ⊎_elim (λ (none : c.versions ≡ []). inl none) (λ (k : c.key ≡ key_places old.columns). inr (k ∙ ap key_places same)) (stands_as old e).key;
    }

    pub has_fit_of : (def old : TableDef) → def_at (defs_of T) c.id ≡ Some old → old.columns ≡ def.columns → HasFit c def
    has_fit_of def old e same = record {
      few = subst (λ (cols : List ColumnDef). length cols ≤ max_columns) same
          (def_like (λ d. length d.columns ≤ max_columns) (defs_of T) c.id old (legal_described v.reads S.ledger.items S.ledger_is_legal.legal).few e);
      fit = subst (λ (cols : List ColumnDef). Each (λ w. FitsSoFar cols w.values) c.versions) same (stands_as old e).fit;
    }

    -- the definition that was found by its name
    module _ (named : NamedPart) (id : named.0.id ≡ c.id) (name : Text) (finds : find_part (defs_of T) name ≡ Some named) where
      defines : IsDefined (defs_of T) c.id
      defines = is_defined (defs_of T) c.id (ap (has_table (defs_of T)) (sym id) ∙ has_found (defs_of T) name named finds)

      same_columns : defines.def.columns ≡ named.0.columns
      same_columns = defines.columns ∙ ap (columns_at (defs_of T)) (sym id) ∙ (found_is_listed 1 (defs_of T) name named ids finds).columns

      pub is_table_found : IsTable c named.0
      is_table_found = is_table_of named.0 defines.def id defines.is same_columns

      pub has_fit_found : HasFit c named.0
      has_fit_found = has_fit_of named.0 defines.def defines.is same_columns

    -- the definition that CREATE INDEX made of it, where the cell hasn't its index yet
    module _ (text : Text) (made_def : TableDef) (place : x.place ≡ inside text (made made_def false)) (id : made_def.id ≡ c.id) (s : Stmt) (is : v.reads text ≡ Some s) where
      got_made : (not (in_journal S.ledger.items (o.id, 0)) ≡ true) × IsAfter T (v.reads text) made_def × HasAlone (contents cells) o.id
      got_made = got_at (inside text (made made_def false)) place tt

      made_so : IndexMade T s made_def
      made_so = index_made T s made_def ids (subst (λ (q : Option Stmt). IsAfter T q made_def) is got_made.1)

      old_here : def_at (defs_of T) c.id ≡ Some made_so.old
      old_here = ap (def_at (defs_of T)) (sym id) ∙ made_so.at

      old_columns : made_so.old.columns ≡ made_def.columns
      old_columns = ap (λ (d : TableDef). d.columns) (sym made_so.is)

      pub is_table_made : IsTable c made_def
      is_table_made = is_table_of made_def made_so.old id old_here old_columns

      -- nobody else has the catalog, and its own index isn't there
      not_added : (z : Session) (t : Stmt) (after : TableDef) (by : Creates v cells seats S.ledger z t) → HasAdded z.place by.o after → ⊥
      not_added z t after by added =
          let same_id : by.o.id ≡ o.id = alone v cells seats S o.id got_made.2 by.o.id (record { hold = record { tx = by.o.id; request = whole X }; has = by.exclusive; mine = refl }) in
          let n : j ≡ by.j = one_seat v cells seats S j by.j x z o by.o has by.has (sym same_id) in
          let same : x ≡ z = same_session by.j z by.o n by.has in
          subst (λ (q : SessionStatus). HasAdded q by.o after) (ap (λ (q : Session). q.place) (sym same) ∙ place) added

      same_indexes : map (λ q. q.ordinals) c.indexes ≡ ordinals_of made_so.old.indexes
      same_indexes = ⊎_elim (λ (e : map (λ q. q.ordinals) c.indexes ≡ ordinals_of made_so.old.indexes). e)
          (λ (other : (z : Session) × (t : Stmt) × (after : TableDef) × (by : Creates v cells seats S.ledger z t) × (def_at (defs_of (defined (change_set T t).definition T)) made_so.old.id ≡ Some after)
          × (map (λ q. q.ordinals) c.indexes ≡ ordinals_of after.indexes) × IsAdding z.place by.o after (cell_of made_so.old.id)). absurd (not_added other.0 other.1 other.2 other.3 other.6.added))
          (stands_as made_so.old old_here).indexes

      pub lacks_last : LacksLast c made_def
      lacks_last = (
        made_so.index.ordinals,
        ap (λ (l : List (List ℕ)). l ++ made_so.index.ordinals ∷ []) same_indexes
            ∙ sym (map-append (λ (q : IndexDef). q.ordinals) made_so.old.indexes (made_so.index ∷ []))
            ∙ ap (λ (d : TableDef). ordinals_of d.indexes) (sym made_so.is),
      )

-- a statement that looks up this name passes its checks
pub passes_rows : (D : Defs) (named : NamedPart) (row : RowStmt) (name : Text) → name_of (stmt.Change row) ≡ Some name → find_part D name ≡ Some named → refused_by_check (Some named) (stmt.Change row) ≡ None
    → row_statement_check (named.0 ∷ []) row ≡ Ok named.0
passes_rows D named row name e f free = row_passes named row (by row e) free
  where
    by : (r : RowStmt) → name_of (stmt.Change r) ≡ Some name → find_part (named.0 ∷ []) (checks.table_of r) ≡ Some named
    by (Insert table names rows) g = let z : table ≡ name = cc in found_alone D table named (ap (find_part D) z ∙ f)
    by (Update table sets cond) g = let z : table ≡ name = cc in found_alone D table named (ap (find_part D) z ∙ f)
    by (Delete table cond) g = let z : table ≡ name = cc in found_alone D table named (ap (find_part D) z ∙ f)

pub passes_query : (D : Defs) (named : NamedPart) (q : Select) (name : Text) → name_of (stmt.Select q) ≡ Some name → find_part D name ≡ Some named → refused_by_check (Some named) (stmt.Select q) ≡ None
    → query_check (named.0 ∷ []) q ≡ Ok named
passes_query D named q name e f free = let z : q.table ≡ name = cc in query_passes named q (found_alone D q.table named (ap (find_part D) z ∙ f)) free
