-- When two states agree on what a statement wants: all that a statement may rely on.
use Rattle.std.specs.Prelude.{ℕ, ◌+◌, ◌==◌, ◌≡◌, Bool, if◌then◌else◌, List, [], ◌∷◌, Option, Some, None}
use Rattle.std.specs.List.{AllByRecursion}
use Rattle.sql_value.specs.declared.column.ColumnDef.{ColumnDef}
use Rattle.sql_types.specs.declared.lock.Mode.{Mode}
use Rattle.sql_types.specs.declared.lock.Mode.TheVariants.{IS, IX, S, X}
use Rattle.sql_types.specs.declared.lock.Item.{Item}
use Rattle.sql_types.specs.declared.lock.Item.TheVariants as item
use Rattle.sql_types.specs.declared.lock.LockRequest.{LockRequest}
use Rattle.sql_types.specs.declared.statement.Stmt.{Stmt}
use Rattle.sql_types.specs.declared.version.Version.{Version}
use Rattle.spec_model.specs.Keys.{part_read}
use Rattle.spec_model.specs.Catalog.{Defs, Tables, defs_of, versions_of}
use Rattle.spec_model.specs.SystemTables.{tables_id, columns_id}
use Rattle.spec_model.specs.Locks.{CellRequests, catalog_request, cell_requests}

-- ---- in a table's cell

-- the versions that an item is
abbrev pub part_of : List ColumnDef → Item → List Version → List Version
part_of columns item.Whole versions = part_read columns None versions
part_of columns (item.Key key) versions = part_read columns (Some key) versions

-- in an intent nothing; and else the versions of the item are the same
abbrev pub AgreeIn : List ColumnDef → Mode → Item → List Version → List Version → Type 0
AgreeIn columns IS item V W = Unit {0}
AgreeIn columns IX item V W = Unit {0}
AgreeIn columns S item V W = part_of columns item V ≡ part_of columns item W
AgreeIn columns X item V W = part_of columns item V ≡ part_of columns item W

abbrev pub AgreeOn : List ColumnDef → List Version → List Version → LockRequest → Type 0
AgreeOn columns V W w = AgreeIn columns w.mode w.item V W

-- on each want
abbrev pub AgreeOnAll : List ColumnDef → List LockRequest → List Version → List Version → Type 0
AgreeOnAll columns requests V W = AllByRecursion (AgreeOn columns V W) requests

-- the columns of the table with this id
abbrev pub columns_at : Defs → ℕ → List ColumnDef
columns_at [] id = []
columns_at (def ∷ defs) id = if def.id == id then def.columns else columns_at defs id

abbrev pub AgreeInCell : CellRequests → Tables → Tables → Type 0
AgreeInCell None T U = Unit {0}
AgreeInCell (Some c) T U = AgreeOnAll (columns_at (defs_of T) c.0) c.1 (versions_of T c.0) (versions_of U c.0)

-- ---- in the catalog

-- all definitions are the same, and all rows of the system tables
pub record SameCatalog (T U : Tables) : Type 0 where
  pub definitions : defs_of T ≡ defs_of U
  pub tables : versions_of T tables_id ≡ versions_of U tables_id
  pub columns : versions_of T columns_id ≡ versions_of U columns_id

abbrev pub AgreeInCatalog : Option Mode → Tables → Tables → Type 0
AgreeInCatalog (Some S) T U = SameCatalog T U
AgreeInCatalog (Some X) T U = SameCatalog T U
AgreeInCatalog _ T U = Unit {0}

-- ---- on a statement's wants

pub record LockRequests : Type 0 where
  pub catalog : Option Mode
  pub cell : CellRequests

-- of a statement, which may stand in a transaction that BEGIN opened
abbrev pub requests_of : Defs → Bool → Stmt → LockRequests
requests_of defs explicit stmt = record { catalog = catalog_request explicit stmt; cell = cell_requests defs stmt }

pub record AgreeFor (T U : Tables) (w : LockRequests) : Type 0 where
  pub catalog : AgreeInCatalog w.catalog T U
  pub cell : AgreeInCell w.cell T U

-- ---- what holds of each run

-- the tables have the ids from this one on, in order
abbrev pub IdsFrom : ℕ → Defs → Type 0
IdsFrom n [] = Unit {0}
IdsFrom n (def ∷ defs) = (def.id ≡ n) × IdsFrom (n + 1) defs
