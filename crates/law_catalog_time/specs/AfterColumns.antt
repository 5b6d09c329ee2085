-- Versions start after the rows that CREATE TABLE entered in the table of columns for their table.
use Rattle.std.specs.Prelude.{ℕ, ◌≡◌, ◌<◌, List, [], ◌∷◌}
use Rattle.std.specs.List.{AllByRecursion}
use Rattle.sql_types.specs.declared.version.Table.{Table}
use Rattle.sql_types.specs.declared.version.Version.{Version}
use Rattle.spec_model.specs.Rows.{number}
use Rattle.spec_model.specs.Keys.{Key, version_key}
use Rattle.spec_model.specs.Catalog.{Tables, versions_of}
use Rattle.spec_model.specs.SystemTables.{columns_id, columns_columns}
use Rattle.law_journal.specs.Kept.{IsEarlier}

-- a key of the table of columns: of a row that CREATE TABLE entered for a column of the table with this id. The
-- change of such a row is 0. Items from 1000 on are parts of indexes
pub record IsKeyOfColumn (id : ℕ) (key : Key) : Type 0 where
  pub item : ℕ
  pub low : item < 1000
  pub is : key ≡ number id ∷ number item ∷ number 0 ∷ []

module _ (place : ℕ → ℕ) (second : List Version) where
  -- each such row started before the version
  abbrev pub StartsAfterColumns : ℕ → Version → Type 0
  StartsAfterColumns id v =
      AllByRecursion (λ w. IsKeyOfColumn id (version_key columns_columns w) → IsEarlier place w.start v.start)
      second

  -- so it is of all versions of a user's table
  abbrev pub AllStartAfterColumns : Table → Type 0
  AllStartAfterColumns t = 2 < t.def.id → AllByRecursion (StartsAfterColumns t.def.id) t.versions

-- so it is in all tables
abbrev pub VersionsFollowColumns : (ℕ → ℕ) → Tables → Type 0
VersionsFollowColumns place T = AllByRecursion (AllStartAfterColumns place (versions_of T columns_id)) T
