-- Versions whose columns an ordinal can count.
use Rattle.std.specs.Prelude.{◌<◌, ◌-◌, ◌^◌, length}
use Rattle.std.specs.List.{AllByRecursion}
use Rattle.sql_types.specs.declared.version.Version.{Version}
use Rattle.spec_model.specs.Catalog.{Tables}

-- an ordinal has 16 bits
abbrev pub IsShort : Version → Type 0
IsShort v = length v.values < 2 ^ 16 - 1

-- each version in each table
abbrev pub AreShort : Tables → Type 0
AreShort tables = AllByRecursion (λ t. AllByRecursion IsShort t.versions) tables
