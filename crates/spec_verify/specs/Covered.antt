-- What a digest of block b covers of an image: the entries of blocks 0 to b, with their events.
use Rattle.std.specs.Prelude.{ℕ, ◌+◌, ◌≡◌, List, ◌++◌, map, take}
use Rattle.std.specs.List.{AllByRecursion, filter}
use Rattle.format_image.specs.Leaf.{without_nulls}
use Rattle.sql_types.specs.declared.entry.BlockRecord.{BlockRecord}
use Rattle.sql_types.specs.declared.entry.TxEntry.{TxEntry}
use Rattle.sql_types.specs.declared.event.Event.{Event}
use Rattle.sql_types.specs.declared.image.Image.{Image}
use Rattle.sql_types.specs.declared.version.Table.{Table}
use Rattle.spec_model.specs.Catalog.{Tables}
use Rattle.spec_model.specs.Events.{events_of}
use Rattle.format_image.specs.Entries.{has_events}
use Rattle.format_image.specs.Tables.{tables_in}
use Rattle.spec_verify.specs.Blocks.{entries_before}

-- a table, and the transaction's events in it by number, without their NULL columns
abbrev pub TableEvents : Type 0
TableEvents = ℕ × List Event

abbrev pub told_in : ℕ → Table → TableEvents
told_in tx t = (t.def.id, map without_nulls (events_of tx t))

-- for each table with an event of the transaction
abbrev pub told_of : ℕ → Tables → List TableEvents
told_of tx tables = map (told_in tx) (filter (has_events tx) tables)

pub record CoveredEntry : Type 0 where
  pub block : ℕ
  pub ordinal : ℕ
  pub id : ℕ
  pub time : ℕ
  pub principal : List ℕ
  -- the events of its transaction, table by table
  pub tables : List TableEvents

abbrev pub covered_entry : Tables → TxEntry → CoveredEntry
covered_entry tables e =
    record {
      block = e.block;
      ordinal = e.ordinal;
      id = e.id;
      time = e.time;
      principal = e.principal;
      tables = told_of e.id tables;
    }

-- the entries of blocks 0 to b
abbrev pub entries_upto : Image → ℕ → List TxEntry
entries_upto i b = take (entries_before i (b + 1)) i.entries

-- these entries, with their events
unfoldable pub covered_of : Image → ℕ → List CoveredEntry
covered_of i b = map (covered_entry (tables_in i)) (entries_upto i b)

-- two images have the same entries in blocks 0 to b, and the same events of their transactions
pub record AgreeUpTo (b : ℕ) (i j : Image) : Type 0 where
  pub entries : entries_upto i b ≡ entries_upto j b
  pub events : AllByRecursion (λ (e : TxEntry). told_of e.id (tables_in i) ≡ told_of e.id (tables_in j))
      (entries_upto i b)

-- what an entry says but for its roots: its block and its place there, its id, its time and its session
abbrev pub Saying : Type 0
Saying = ℕ × ℕ × ℕ × ℕ × List ℕ

abbrev pub saying_of : TxEntry → Saying
saying_of e = (e.block, e.ordinal, e.id, e.time, e.principal)

-- two images say the same in their entries of blocks 0 to b, and tell the same events of their transactions
pub record SayTheSameUpTo (b : ℕ) (i j : Image) : Type 0 where
  pub entries : map saying_of (entries_upto i b) ≡ map saying_of (entries_upto j b)
  pub events : map (λ (e : TxEntry). told_of e.id (tables_in i)) (entries_upto i b)
      ≡ map (λ (e : TxEntry). told_of e.id (tables_in j)) (entries_upto j b)

-- the image with more blocks and more entries behind its own
abbrev pub with_more : Image → List BlockRecord → List TxEntry → Image
with_more i blocks entries =
    record {
      database = i.database;
      blocks = i.blocks ++ blocks;
      entries = i.entries ++ entries;
      defs = i.defs;
      tables = i.tables;
    }
