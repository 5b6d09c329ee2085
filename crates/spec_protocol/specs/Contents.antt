-- What the cells have, and what the journal says, as far as others than the ledger's cell ask for it:
-- functions, so that a visit that leaves them leaves all that is said of them.
use Rattle.std.specs.Prelude.{ℕ, ◌==◌, Bool, List}
use Rattle.std.specs.List.{list_any}
use mathlib.Core.Option.{Option, some, none}
use lib.ListN.{get_elem?}
use Rattle.sql_types.specs.declared.journal.JournalItem.{JournalItem}
use Rattle.sql_types.specs.declared.lock.Mode.TheVariants.{X}
use Rattle.sql_types.specs.declared.version.Version.{Version}
use Rattle.spec_model.specs.Catalog.{Tables}
use Rattle.spec_model.specs.Journals.{upto, serial}
use Rattle.spec_model.specs.Script.{Reading}
use Rattle.spec_model.specs.Locks.{whole}
use Rattle.spec_history.specs.Lists.{In}
use Rattle.spec_history.specs.Journals.{ids_of}
use Rattle.sql_types.specs.declared.lock.Hold.{Hold}
use Rattle.spec_protocol.specs.Cells.{TableCell, Cell, Rows, holds_at, versions_at, catalog_at}

-- ---- cells

abbrev pub table_found : Option Cell → Option TableCell
table_found (some (Rows t)) = some t
table_found _ = none

pub record Contents : Type 0 where
  -- the locks in the cell with this number
  pub holds : ℕ → List Hold
  -- the versions of the table with this id
  pub versions : ℕ → List Version
  -- the table's cell with this number
  pub table : ℕ → Option TableCell

abbrev pub contents : List Cell → Contents
contents cells = record {
  holds = λ i. holds_at cells i;
  versions = λ id. versions_at cells id;
  table = λ i. table_found (get_elem? cells i);
}

-- the transaction has the catalog's X
abbrev pub HasAlone : Contents → ℕ → Type 0
HasAlone c id = In (record { tx = id; request = whole X }) (c.holds catalog_at)

-- ---- the journal

pub record Known : Type 0 where
  -- the tables that it leads to
  pub tables : Tables
  -- those to which its first n transactions lead
  pub after : ℕ → Tables
  -- it has the transaction with this id
  pub has : ℕ → Bool

abbrev pub has_id : List JournalItem → ℕ → Bool
has_id J id = list_any (λ n. n == id) (ids_of J)

abbrev pub known : Reading → List JournalItem → Known
known reads J = record { tables = serial reads J; after = λ n. serial reads (upto J n); has = has_id J }
