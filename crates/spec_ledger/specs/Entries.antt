-- Transaction entries: what the ledger says of a transaction that was committed.
use Rattle.std.specs.Prelude.{ℕ, ◌+◌, ◌==◌, not, Bool, List, [], ◌∷◌, map, length}
use Rattle.std.specs.List.{filter}
use Rattle.format_event.specs.Leaf.{event_bytes}
use Rattle.format_entry.specs.TreeHash.{tree_hash}
use Rattle.sql_types.specs.declared.entry.TxEntry.{TxEntry}
use Rattle.sql_types.specs.declared.version.Table.{Table}
use Rattle.spec_model.specs.Catalog.{Tables}
use Rattle.spec_model.specs.Events.{events_of}

-- the leaves of a transaction in a table: the bytes of its starts and ends there, by number
abbrev pub leaves_of : ℕ → Table → List (List ℕ)
leaves_of tx t = map event_bytes (events_of tx t)

-- the transaction has an event in the table
abbrev pub has_events : ℕ → Table → Bool
has_events tx t = not (length (events_of tx t) == 0)

module _ (h : List ℕ → List ℕ) where
  -- a table, and the tree hash of the transaction's leaves in it
  abbrev pub root_in : ℕ → Table → ℕ × List ℕ
  root_in tx t = (t.def.id, tree_hash h (leaves_of tx t))

  -- one for each table with an event of the transaction; tables stand by rising id
  unfoldable pub roots_of : ℕ → Tables → List (ℕ × List ℕ)
  roots_of tx tables = map (root_in tx) (filter (has_events tx) tables)

  -- the entry of a transaction that led to these tables: its id, time and session, and its roots; its place
  -- is 0 in block 0 until it gets one
  abbrev pub entry_of : Tables → ℕ → List ℕ → ℕ → TxEntry
  entry_of tables id session time =
      record { id = id; block = 0; ordinal = 0; time = time; principal = session; roots = roots_of id tables }

-- the entry, at this place of this block
abbrev pub at_place : ℕ → ℕ → TxEntry → TxEntry
at_place block ordinal e =
    record {
      id = e.id;
      block = block;
      ordinal = ordinal;
      time = e.time;
      principal = e.principal;
      roots = e.roots;
    }

-- these entries in a row, from this place of this block on
abbrev pub placed : ℕ → ℕ → List TxEntry → List TxEntry
placed block ordinal [] = []
placed block ordinal (e ∷ es) = at_place block ordinal e ∷ placed block (ordinal + 1) es
