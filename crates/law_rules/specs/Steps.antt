-- What statements enter in the tables of the system: the rows with their places, and the definitions after.
use Rattle.std.specs.Prelude.{ℕ, ◌+◌, ◌≡◌, ◌<◌, true, false, List, [], ◌∷◌, ◌++◌, map, length}
use Rattle.std.specs.List.{AllByRecursion}
use Rattle.std.specs.List.Sorted.{IsPermutation}
use Rattle.sql_types.specs.declared.table.TableDef.{TableDef}
use Rattle.sql_types.specs.declared.version.Version.{Version}
use Rattle.spec_model.specs.Agreement.{IdsFrom}
use Rattle.spec_model.specs.Catalog.{Defs, Tables, defs_of}
use Rattle.spec_model.specs.Rows.{Row, values_of}
use Rattle.spec_model.specs.SystemTables.{tables_def, columns_def}
use Rattle.law_catalog_rows.specs.Encoded.{IsAmong, EncodeEach}
use Rattle.law_catalog_rows.specs.Formed.{Formed}
use Rattle.law_catalog_rows.specs.IsEncodableDef.{is_encodable_def}
use Rattle.spec_rules.specs.Places.{EventPlace, PlacedRow, stands_before}
use Rattle.spec_rules.specs.Rows.{CatalogRows}

-- the rows of the system's tables, and the definitions of users' tables
pub record Catalog : Type 0 where
  pub rows : CatalogRows
  pub defs : Defs

-- the definitions of all tables
abbrev pub all_defs : Catalog → Defs
all_defs x = tables_def ∷ columns_def ∷ x.defs

-- the rows without their places
abbrev pub rows_alone : List PlacedRow → List Row
rows_alone rows = map (λ (r : PlacedRow). r.row) rows

-- ---- of tables, by the places of transactions

abbrev pub row_at : (ℕ → ℕ) → Version → PlacedRow
row_at place v = record { place = (place v.start.0, v.start.1); row = values_of v }

abbrev pub rows_at : (ℕ → ℕ) → List Version → List PlacedRow
rows_at place versions = map (row_at place) versions

abbrev pub nothing : Catalog
nothing = record { rows = record { tables = []; items = [] }; defs = [] }

abbrev pub catalog_of : (ℕ → ℕ) → Tables → Catalog
catalog_of place (first ∷ second ∷ users) =
    record {
      rows = record { tables = rows_at place first.versions; items = rows_at place second.versions };
      defs = defs_of users;
    }
catalog_of place _ = nothing

-- the tables behind the two of the system
abbrev pub users_of : Tables → Tables
users_of (first ∷ second ∷ users) = users
users_of _ = []

-- ---- rows that are entered

-- rows of one transaction, numbered from n
abbrev pub placed_from : ℕ → ℕ → List Row → List PlacedRow
placed_from position n [] = []
placed_from position n (r ∷ rs) = record { place = (position, n); row = r } ∷ placed_from position (n + 1) rs

-- these rows were entered from the place on, those of the table of tables first
pub record Entered (p : EventPlace) (first second : List Row) (x y : Catalog) : Type 0 where
  pub tables : IsPermutation y.rows.tables (placed_from p.0 p.1 first ++ x.rows.tables)
  pub items : IsPermutation y.rows.items (placed_from p.0 (p.1 + length first) second ++ x.rows.items)

-- all rows stand before the place
pub record StandBefore (p : EventPlace) (rows : CatalogRows) : Type 0 where
  pub tables : AllByRecursion (λ (r : PlacedRow). stands_before r.place p ≡ true) rows.tables
  pub items : AllByRecursion (λ (r : PlacedRow). stands_before r.place p ≡ true) rows.items

-- ---- what is known at each time

-- the definitions keep to the rules of statements, and the rows spell them
pub record Ground (x : Catalog) : Type 0 where
  pub ids : IdsFrom 3 x.defs
  pub formed : AllByRecursion Formed x.defs
  pub encodable : AllByRecursion (λ d. is_encodable_def d ≡ true) x.defs
  pub encoded : EncodeEach (rows_alone x.rows.tables) (rows_alone x.rows.items) x.defs

-- a table that wasn't dropped
pub record Stands (x : Catalog) (def : TableDef) : Type 0 where
  pub users : 2 < def.id
  pub among : IsAmong def x.defs
  pub there : def.gone ≡ false
