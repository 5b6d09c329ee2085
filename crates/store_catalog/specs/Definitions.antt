-- The definitions, and how a change of them is taken back.
use Rattle.std.specs.Prelude.{ℕ, ◌≤◌, ◌+◌, ◌-◌, ◌==◌, Bool, false, length, take, slice_set, Option, Some, None}
use Rattle.std.specs.List.{AllByRecursion}
use Rattle.sql_types.specs.declared.table.TableDef.{TableDef}
use Rattle.spec_model.specs.Agreement.{IdsFrom}
use Rattle.spec_model.specs.Catalog.{Defs}
use Rattle.spec_model.specs.Create.{system_tables}
use Rattle.spec_model.specs.Limits.{max_columns, max_tables}
use Rattle.spec_protocol.specs.CatalogVisits.{replaced_def}
use Rattle.spec_protocol.specs.Cells as cells
use Rattle.law_journal.specs.Described.{InRange}
use Rattle.store_catalog.specs.Names.{MayReplace}
use Rattle.store_catalog.specs.declared.definitions.Creator.{Creator}
use Rattle.store_catalog.specs.declared.named_defs.PlacedDef.{PlacedDef}

-- the first table has the id 1, the next 2, and so on, there are no more tables and columns than there may be,
-- and the columns have types that they may have
pub record AreFormed (defs : Defs) : Type 0 where
  pub ids : IdsFrom 1 defs
  pub count : length defs ≤ max_tables + system_tables
  pub few : AllByRecursion (λ def. length def.columns ≤ max_columns) defs
  pub types : AllByRecursion InRange defs

-- ---- the last change

-- the definitions before the last one was added, or before one took the place of another
abbrev pub before : Defs → Option PlacedDef → Defs
before defs None = take (length defs - 1) defs
before defs (Some r) = slice_set defs r.place r.def

abbrev pub IsPlace : Defs → Option PlacedDef → Type 0
IsPlace defs None = Unit {0}
IsPlace defs (Some r) = MayReplace defs r

-- the transaction made it, and hasn't released the catalog
abbrev pub is_creator : ℕ → Option Creator → Bool
is_creator tx None = false
is_creator tx (Some k) = k.tx == tx

-- who made it, as contracts see it
abbrev pub creator_seen : Defs → Option Creator → Option cells.Creator
creator_seen defs None = None
creator_seen defs (Some k) = Some (record { tx = k.tx; before = before defs k.replaced })

-- it can be taken back
abbrev pub MayTakeBack : Defs → Option Creator → Type 0
MayTakeBack defs None = Unit {0}
MayTakeBack defs (Some k) = AreFormed (before defs k.replaced) × IsPlace defs k.replaced

-- the definition is in the place of its table's, and the transaction made the change
abbrev pub redefined : ℕ → TableDef → cells.CatalogCell → cells.CatalogCell
redefined tx def c =
    record {
      defs = replaced_def def c.defs;
      creator = Some (record { tx = tx; before = c.defs });
      tables = c.tables;
      columns = c.columns;
      holds = c.holds;
    }
