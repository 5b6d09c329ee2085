-- What a statement that creates, alters or drops makes before it changes anything.
use Rattle.std.specs.Prelude.{ℕ, ◌≡◌, ◌+◌, ◌<◌, ◌≤◌, ◌^◌, List, [], ◌∷◌, length, map, Ok}
use Rattle.sql_types.specs.declared.change.Change.{Change}
use Rattle.sql_types.specs.declared.statement.CreateIndex.{CreateIndex}
use Rattle.sql_types.specs.declared.statement.CreateTable.{CreateTable}
use Rattle.sql_types.specs.declared.table.IndexDef.{IndexDef}
use Rattle.sql_types.specs.declared.table.TableDef.{TableDef}
use Rattle.format_event.specs.Leaf.{event_bytes}
use Rattle.spec_model.specs.Alter.{Altered}
use Rattle.spec_model.specs.Catalog.{Defs}
use Rattle.spec_model.specs.Create.{create_check, index_check, with_index}
use Rattle.spec_model.specs.Effect.{column_starts, index_starts, table_start}
use Rattle.spec_model.specs.Limits.{max_columns}
use Rattle.spec_model.specs.Refusals.{Checked}
use Rattle.spec_model.specs.SystemTables.{column_rows, columns_id, tables_id}
use Rattle.law_journal.specs.Described.{InRange}
use Rattle.store_catalog.specs.Names.{MayReplace}
use Rattle.store_catalog.specs.Rows.{starts_of, IsRow}
use Rattle.store_catalog.specs.declared.altering.AlteredTable.{AlteredTable}
use Rattle.store_catalog.specs.declared.creating.NewIndex.{NewIndex}
use Rattle.store_catalog.specs.declared.creating.NewTable.{NewTable}
use Rattle.store_catalog.specs.declared.named_defs.PlacedDef.{PlacedDef}
use Rattle.store_catalog.specs.declared.rows.NewRows.{NewRows}

-- these changes, with the leaves that they are as events of the table with the numbers from seq on
pub record AreNew (table tx seq : ℕ) (meant : List Change) (rows : NewRows) : Type 0 where
  pub starts : rows.starts ≡ meant
  pub leaves : rows.leaves ≡ map event_bytes (starts_of table tx seq meant)
  pub room : seq + length meant < 2 ^ 63

-- a table that passes the checks, and its rows in both tables of the system
pub record IsNewTable (defs : Defs) (tx seq : ℕ) (create : CreateTable) (new : NewTable) : Type 0 where
  pub passes : create_check defs create ≡ Ok new.def
  pub first : AreNew tables_id tx seq (table_start new.def) new.first
  pub second : AreNew columns_id tx (seq + 1) (column_starts (column_rows new.def)) new.second

-- a definition for the place of its table's
pub record IsPlaced (defs : Defs) (placed : PlacedDef) : Type 0 where
  pub place : placed.def.id ≡ placed.place + 1
  pub may : MayReplace defs placed
  pub few : length placed.def.columns ≤ max_columns
  pub types : InRange placed.def

-- an index that passes the checks, its table's definition with it, and its rows in the table of columns
pub record IsNewIndex (defs : Defs) (tx seq : ℕ) (create : CreateIndex) (new : NewIndex) : Type 0 where
  pub def : TableDef
  pub index : IndexDef
  pub passes : index_check defs create ≡ Ok (def, index)
  pub now : new.placed.def ≡ with_index def index
  pub answer : new.answer ≡ with_index def index
  pub placed : IsPlaced defs new.placed
  pub rows : AreNew columns_id tx seq (index_starts def index) new.rows

-- what ALTER TABLE means, where nothing is refused: a definition, and a row in the table of columns
pub record IsAlteredTable (defs : Defs) (meant : Checked Altered) (tx seq : ℕ) (new : AlteredTable) : Type 0 where
  pub row : Change
  pub passes : meant ≡ Ok (record { def = new.placed.def; first = []; second = row ∷ [] })
  pub placed : IsPlaced defs new.placed
  pub is_row : IsRow row
  pub rows : AreNew columns_id tx seq (row ∷ []) new.rows

-- what DROP TABLE means, where nothing is refused: a definition, and a row in the table of tables
pub record IsDroppedTable (defs : Defs) (meant : Checked Altered) (tx seq : ℕ) (new : AlteredTable) : Type 0 where
  pub row : Change
  pub passes : meant ≡ Ok (record { def = new.placed.def; first = row ∷ []; second = [] })
  pub placed : IsPlaced defs new.placed
  pub is_row : IsRow row
  pub rows : AreNew tables_id tx seq (row ∷ []) new.rows
