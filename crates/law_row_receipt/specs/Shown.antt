-- What receipts of rows show of an image.
use Rattle.std.specs.Prelude.{ℕ, ◌≡◌, List, Some}
use Rattle.std.specs.List.{slice_get}
use Rattle.sql_types.specs.declared.event.Event.{Event}
use Rattle.sql_types.specs.declared.image.Image.{Image}
use Rattle.sql_types.specs.declared.version.Table.{Table}
use Rattle.format_event.specs.Leaf.{event_bytes}
use Rattle.spec_model.specs.Events.{events_of}
use Rattle.spec_ledger.specs.Entries.{leaves_of}
use Rattle.format_image.specs.Tables.{tables_in}

-- the image has a table with this id
pub record HasTable (i : Image) (table : ℕ) : Type 0 where
  pub place : ℕ
  pub it : Table
  pub there : slice_get (tables_in i) place ≡ Some it
  pub of : it.def.id ≡ table

-- these are the leaves of all events of the transaction in the table, by number
pub record HasAll (i : Image) (tx table : ℕ) (leaves : List (List ℕ)) : Type 0 where
  pub table_there : HasTable i table
  pub all : leaves ≡ leaves_of tx table_there.it

-- this is the leaf of one of them
pub record HasOne (i : Image) (tx table : ℕ) (leaf : List ℕ) : Type 0 where
  pub table_there : HasTable i table
  pub number : ℕ
  pub event : Event
  pub among : slice_get (events_of tx table_there.it) number ≡ Some event
  pub is : leaf ≡ event_bytes event
