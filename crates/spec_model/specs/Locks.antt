-- The locks that statements want, and which of them conflict.
use Rattle.std.specs.Prelude.{ℕ, ◌==◌, ◌&&◌, ◌||◌, not, Bool, true, false, List, [], ◌∷◌, map, Option, Some, None, Ok, Err}
use Rattle.std.specs.List.{list_any, zip}
use Rattle.sql_value.specs.declared.value.Value.{Value}
use Rattle.sql_value.specs.declared.value.Value.TheVariants.{Null}
use Rattle.sql_value.specs.declared.column.ColumnDef.{ColumnDef}
use Rattle.sql_value.specs.Conversion.{Converted, conversion_of}
use Rattle.sql_types.specs.declared.lock.Mode.{Mode}
use Rattle.sql_types.specs.declared.lock.Mode.TheVariants.{IS, IX, S, X}
use Rattle.sql_types.specs.declared.lock.Item.{Item}
use Rattle.sql_types.specs.declared.lock.Item.TheVariants as item
use Rattle.sql_types.specs.declared.lock.LockRequest.{LockRequest}
use Rattle.sql_types.specs.declared.statement.Stmt.{Stmt}
use Rattle.sql_types.specs.declared.statement.Stmt.TheVariants as s
use Rattle.sql_types.specs.declared.statement.RowStmt.{RowStmt}
use Rattle.sql_types.specs.declared.statement.RowStmt.TheVariants.{Insert, Update, Delete}
use Rattle.sql_types.specs.declared.statement.Select.{Select}
use Rattle.sql_types.specs.declared.table.TableDef.{TableDef}
use Rattle.sql_types.specs.declared.table.Part.TheVariants.{Base, History, View, System}
use Rattle.spec_model.specs.Refusals.{Checked}
use Rattle.spec_model.specs.Lists.{all_some}
use Rattle.spec_model.specs.Rows.{Row}
use Rattle.spec_model.specs.Keys.{Key, key_columns, key_places, value_at, same_key}
use Rattle.spec_model.specs.Where.{key_fixed}
use Rattle.spec_model.specs.Changes.{written_names, arranged}
use Rattle.spec_model.specs.Catalog.{Defs, NamedPart}
use Rattle.spec_model.specs.Checks.{row_statement_check}
use Rattle.spec_model.specs.Query.{query_check}

-- ---- modes

-- locks of two transactions on one item agree in these cases alone
abbrev pub agree : Mode → Mode → Bool
agree IS IS = true
agree IS IX = true
agree IS S = true
agree IX IS = true
agree IX IX = true
agree S IS = true
agree S S = true
agree _ _ = false

unfoldable pub conflict : Mode → Mode → Bool
conflict a b = not (agree a b)

-- ---- items

unfoldable pub same_item : Item → Item → Bool
same_item item.Whole item.Whole = true
same_item (item.Key a) (item.Key b) = same_key a b
same_item _ _ = false

-- two locks of different transactions can't stand together
abbrev pub requests_conflict : LockRequest → LockRequest → Bool
requests_conflict a b = same_item a.item b.item && conflict a.mode b.mode

-- ---- the wants of a statement

abbrev pub whole : Mode → LockRequest
whole mode = record { item = item.Whole; mode = mode }

abbrev pub of_key : Mode → Key → LockRequest
of_key mode key = record { item = item.Key key; mode = mode }

-- in the catalog: CREATE, ALTER and DROP want X, the other table statements S. In a transaction that BEGIN opened the
-- first are refused before.
abbrev pub catalog_request : Bool → Stmt → Option Mode
catalog_request true (s.Create c) = None
catalog_request true (s.Index c) = None
catalog_request true (s.Alter a) = None
catalog_request true (s.Drop name) = None
catalog_request false (s.Create c) = Some X
catalog_request false (s.Index c) = Some X
catalog_request false (s.Alter a) = Some X
catalog_request false (s.Drop name) = Some X
catalog_request explicit (s.Change stmt) = Some S
catalog_request explicit (s.Select q) = Some S
catalog_request explicit _ = None

-- in the table's cell, where WHERE fixes the key: an intent on the table and the key; and else the whole
-- table
abbrev pub by_key_or_whole : Mode → Mode → Option Key → List LockRequest
by_key_or_whole intent mode (Some key) = whole intent ∷ of_key mode key ∷ []
by_key_or_whole intent mode None = whole mode ∷ []

abbrev pub not_null : Value → Option Value
not_null Null = None
not_null v = Some v

abbrev pub key_value : Converted → Option Value
key_value (Ok v) = not_null v
key_value (Err e) = None

-- the key of a row of VALUES, where its key values all convert and aren't NULL
unfoldable pub key_inserted : List ColumnDef → Option (List (List ℕ)) → Row → Option Key
key_inserted columns names row =
    let values = map (value_at (arranged columns names row)) (key_places columns) in
    all_some (map (λ p. key_value (conversion_of p.1 p.0.ty)) (zip (key_columns columns) values))

abbrev pub by_keys : Option (List Key) → List LockRequest
by_keys (Some keys) = whole IX ∷ map (of_key X) keys
by_keys None = whole X ∷ []

unfoldable pub row_requests : TableDef → RowStmt → List LockRequest
row_requests def (Insert table names rows) =
    by_keys (all_some (map (key_inserted def.columns (written_names def names)) rows))
row_requests def (Update table sets cond) = by_key_or_whole IX X (key_fixed def.columns cond)
row_requests def (Delete table cond) = by_key_or_whole IX X (key_fixed def.columns cond)

-- a system table is read in the catalog alone
unfoldable pub query_requests : NamedPart → Select → List LockRequest
query_requests (def, Base) q = by_key_or_whole IS S (key_fixed def.columns q.cond)
query_requests (def, History) q = whole S ∷ []
query_requests (def, View) q = whole S ∷ []
query_requests (def, System) q = []

-- a table's cell, and what is wanted there
abbrev pub CellRequests : Type 0
CellRequests = Option (ℕ × List LockRequest)

abbrev pub row_cell_requests : RowStmt → Checked TableDef → CellRequests
row_cell_requests stmt (Ok def) = Some (def.id, row_requests def stmt)
row_cell_requests stmt (Err e) = None

abbrev pub query_cell_requests : Select → Checked NamedPart → CellRequests
query_cell_requests q (Ok n) = Some (n.0.id, query_requests n q)
query_cell_requests q (Err e) = None

-- in the table's cell, where the statement passes all that is checked before
unfoldable pub cell_requests : Defs → Stmt → CellRequests
cell_requests defs (s.Change stmt) = row_cell_requests stmt (row_statement_check defs stmt)
cell_requests defs (s.Select q) = query_cell_requests q (query_check defs q)
cell_requests defs _ = None

-- ---- clash

abbrev pub some_conflict : List LockRequest → List LockRequest → Bool
some_conflict xs ys = list_any (λ a. list_any (requests_conflict a) ys) xs

abbrev pub cells_clash : CellRequests → CellRequests → Bool
cells_clash (Some a) (Some b) = a.0 == b.0 && some_conflict a.1 b.1
cells_clash _ _ = false

abbrev pub catalog_clash : Option Mode → Option Mode → Bool
catalog_clash (Some a) (Some b) = conflict a b
catalog_clash _ _ = false

-- two statements clash: their wants in the catalog conflict, or those on one item of one table. Each may
-- stand in a
-- transaction that BEGIN opened.
unfoldable pub clash : Defs → Bool → Stmt → Bool → Stmt → Bool
clash defs a_opened a b_opened b =
    catalog_clash (catalog_request a_opened a) (catalog_request b_opened b)
    || cells_clash (cell_requests defs a) (cell_requests defs b)
