-- What holds of definitions and of the system tables between two statements: which columns the system tables have, that
-- their keys are below those that a new table or index gets, so that its rows are at keys that no row has, and that their
-- changes are as few as a table can have had.
use Rattle.std.specs.Prelude.{ℕ, ◌+◌, ◌*◌, ◌==◌, ◌≡◌, ◌<◌, ◌≤◌, if◌then◌else◌, true, List, [], ◌∷◌, length}
use Rattle.std.specs.List.{AllByRecursion}
use Rattle.sql_value.specs.declared.column.ColumnDef.{ColumnDef}
use Rattle.sql_value.specs.Stored.{is_in_range}
use Rattle.sql_types.specs.declared.table.TableDef.{TableDef}
use Rattle.spec_model.specs.Lists.{is_among}
use Rattle.spec_model.specs.Limits.{max_columns, max_tables}
use Rattle.spec_model.specs.Rows.{number}
use Rattle.spec_model.specs.Keys.{Key, version_key}
use Rattle.spec_model.specs.Catalog.{Defs, Tables, defs_of}
use Rattle.spec_model.specs.Create.{system_tables}
use Rattle.spec_model.specs.SystemTables.{tables_id, columns_id, tables_columns, columns_columns}
use Rattle.law_journal.specs.Fine.{OfTable}

-- the items of a table's rows are below 1000 for its columns, from 1000 on for its first index, and so on:
-- from this
-- number on are the items of its next index, and a table that isn't there has none
abbrev pub items_below : Defs → ℕ → ℕ
items_below [] id = 0
items_below (def ∷ defs) id = if def.id == id then 1000 * (length def.indexes + 1) else items_below defs id

-- of these columns, which have the ordinals from n on, how many weren't dropped
abbrev pub live_from : List ℕ → ℕ → List ColumnDef → ℕ
live_from dropped n [] = 0
live_from dropped n (c ∷ cs) = (if is_among dropped n then 0 else 1) + live_from dropped (n + 1) cs

-- changes of a table, with those that are still to come: each column is added and dropped, and then the table
abbrev pub most_changes : TableDef → ℕ
most_changes def = 2 * length def.columns + (if def.gone then 1 else 0)

-- if this is the table's id, it may have had so many changes: the columns that stand are yet to be dropped
abbrev pub IsChange : ℕ → ℕ → TableDef → Type 0
IsChange id change def = def.id ≡ id → change + live_from def.dropped 1 def.columns ≤ most_changes def

-- a key of the table of tables, with no id above those of the tables so far, and no change that its table can't have had
abbrev pub IsTableKey : Defs → Key → Type 0
IsTableKey defs key =
    (id : ℕ) × (change : ℕ) × (id ≤ length defs) × AllByRecursion (IsChange id change) defs
    × (key ≡ number id ∷ number change ∷ [])

-- a key of the table of columns, with the id of a table that there is, no item from those of its next
-- index on, and no change that its table can't have had
abbrev pub IsColumnKey : Defs → Key → Type 0
IsColumnKey defs key =
    (id : ℕ) × (item : ℕ) × (change : ℕ) × (item < items_below defs id) × AllByRecursion (IsChange id change) defs
    × (key ≡ number id ∷ number item ∷ number change ∷ [])

-- types that a table may have
abbrev pub InRange : TableDef → Type 0
InRange def = AllByRecursion (λ c. is_in_range c.ty ≡ true) def.columns

pub record Described (tables : Tables) : Type 0 where
  pub of_tables : OfTable tables_id (λ t. (t.def.columns ≡ tables_columns)
      × AllByRecursion (λ v. IsTableKey (defs_of tables) (version_key tables_columns v)) t.versions) tables
  pub of_columns : OfTable columns_id (λ t. (t.def.columns ≡ columns_columns)
      × AllByRecursion (λ v. IsColumnKey (defs_of tables) (version_key columns_columns v)) t.versions) tables
  pub few : AllByRecursion (λ def. length def.columns ≤ max_columns) (defs_of tables)
  pub types : AllByRecursion InRange (defs_of tables)
  pub count : length (defs_of tables) ≤ max_tables + system_tables
