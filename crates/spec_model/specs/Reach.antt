-- What the wants of a statement let it change.
use Rattle.std.specs.Prelude.{ℕ, ◌==◌, ◌&&◌, ◌||◌, Bool, true, false, Option, Some, None}
use Rattle.std.specs.List.{list_any}
use Rattle.sql_types.specs.declared.lock.Mode.{Mode}
use Rattle.sql_types.specs.declared.lock.Mode.TheVariants.{X}
use Rattle.sql_types.specs.declared.lock.Item.{Item}
use Rattle.sql_types.specs.declared.lock.Item.TheVariants as item
use Rattle.sql_types.specs.declared.lock.LockRequest.{LockRequest}
use Rattle.sql_types.specs.declared.statement.Stmt.{Stmt}
use Rattle.sql_types.specs.declared.statement.Stmt.TheVariants as s
use Rattle.spec_model.specs.Keys.{Key, same_key}
use Rattle.spec_model.specs.SystemTables.{tables_id, columns_id}
use Rattle.spec_model.specs.Locks.{CellRequests}
use Rattle.spec_model.specs.Agreement.{LockRequests}

-- it changes the definitions
abbrev pub creates : Stmt → Bool
creates (s.Create c) = true
creates (s.Index c) = true
creates (s.Alter a) = true
creates (s.Drop name) = true
creates _ = false

-- the rows of this key are among the item
abbrev pub has_key : Key → Item → Bool
has_key key item.Whole = true
has_key key (item.Key k) = same_key k key

abbrev pub is_exclusive : Mode → Bool
is_exclusive X = true
is_exclusive _ = false

abbrev pub lets_change : Key → LockRequest → Bool
lets_change key w = is_exclusive w.mode && has_key key w.item

-- in the table with this id, the rows of this key
abbrev pub cell_reaches : ℕ → Key → CellRequests → Bool
cell_reaches id key (Some c) = c.0 == id && list_any (lets_change key) c.1
cell_reaches id key None = false

-- in the table with this id, any row
abbrev pub cell_reaches_table : ℕ → CellRequests → Bool
cell_reaches_table id (Some c) = c.0 == id && list_any (λ w. is_exclusive w.mode) c.1
cell_reaches_table id None = false

-- who has the catalog alone changes the system tables
abbrev pub catalog_reaches : ℕ → Option Mode → Bool
catalog_reaches id (Some X) = id == tables_id || id == columns_id
catalog_reaches id _ = false

-- X is wanted on rows of this key, in the table with this id
abbrev pub reaches : ℕ → Key → LockRequests → Bool
reaches id key w = catalog_reaches id w.catalog || cell_reaches id key w.cell

-- X is wanted on something of the table with this id
abbrev pub reaches_table : ℕ → LockRequests → Bool
reaches_table id w = catalog_reaches id w.catalog || cell_reaches_table id w.cell
