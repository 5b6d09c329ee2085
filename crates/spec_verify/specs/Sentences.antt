-- What the invariants say of an image, in sentences. That the verdict names their first and least faults is a
-- law.
use Rattle.std.specs.Prelude.{ℕ, ℤ, pos, ◌≡◌, ◌≢◌, ◌<◌, ◌≤◌, ◌+◌, ◌⊎◌, ◌==◌, true, List, length, map, flat_map, take, Option, None, IfSome, MatchOption}
use Rattle.std.specs.List.{AllByRecursion, Any, filter, zip}
use Rattle.format_entry.specs.Entry.{entry_bytes}
use Rattle.base_merkle.specs.TreeHash.{tree_hash}
use Rattle.sql_value.specs.declared.column.TableKind.TheVariants.{AppendOnly}
use Rattle.sql_types.specs.declared.digest.HeldDigest.{HeldDigest}
use Rattle.sql_types.specs.declared.entry.BlockRecord.{BlockRecord}
use Rattle.sql_types.specs.declared.entry.TxEntry.{TxEntry}
use Rattle.sql_types.specs.declared.event.Event.{Event}
use Rattle.sql_types.specs.declared.image.Image.{Image}
use Rattle.sql_types.specs.declared.image.TableRows.{TableRows}
use Rattle.sql_types.specs.declared.table.IndexDef.{IndexDef}
use Rattle.sql_types.specs.declared.table.TableDef.{TableDef}
use Rattle.sql_types.specs.declared.version.Table.{Table}
use Rattle.sql_types.specs.declared.version.TypedValue.{TypedValue}
use Rattle.sql_types.specs.declared.version.Version.{Version}
use Rattle.spec_model.specs.Events.{all_events}
use Rattle.spec_model.specs.Limits.{max_block}
use Rattle.spec_model.specs.SystemTables.{columns_id}
use Rattle.format_image.specs.Blocks.{hash_at}
use Rattle.format_image.specs.Entries.{roots_of}
use Rattle.format_image.specs.Tables.{tables_in, defs_in}
use Rattle.law_catalog_rows.specs.Differs.{is_encoded, all_ids}
use Rattle.spec_verify.specs.declared.place.Place.{Place}
use Rattle.spec_verify.specs.declared.place.Place.TheVariants as at
use Rattle.spec_verify.specs.Blocks.{hash_before, entries_before, entries_in}
use Rattle.spec_verify.specs.Definitions.{base_rows}
use Rattle.spec_verify.specs.Entries.{TableEvent, events_in, root_at}
use Rattle.spec_verify.specs.Indexes.{index_holds}
use Rattle.spec_verify.specs.Order.{is_before, latest, ends_before, before}
use Rattle.spec_rules.specs.Rules.{KeepsTheRules, VersionKeepsTheRules}
use Rattle.spec_verify.specs.Rules.{ids_of_rows, last_before, rows_of_image}
use Rattle.spec_verify.specs.Told.{HoldsOfEach, FailsFirst}
use Rattle.spec_verify.specs.Versions.{column_as_of, has_columns, respects_not_null, rows_of_columns, says_not_null, with_columns}

-- ---- digests and blocks

-- the digest is of this database, of a block that the image has, and of that block's hash
pub record DigestHolds (h : List ℕ → List ℕ) (i : Image) (d : HeldDigest) : Type 0 where
  pub database : d.database ≡ i.database
  pub block : d.block < length i.blocks
  pub hash : d.hash ≡ hash_at h i.blocks d.block

-- the block at place b is numbered so and keeps the hash of the one before
pub record LinkHolds (h : List ℕ → List ℕ) (i : Image) (b : ℕ) (r : BlockRecord) : Type 0 where
  pub number : r.id ≡ b
  pub previous : r.previous ≡ hash_before h i b

-- the block has entries, at most as many as a block may have, all of them are there, and it has their root
pub record BlockHolds (h : List ℕ → List ℕ) (i : Image) (b : ℕ) (r : BlockRecord) : Type 0 where
  pub some : 1 ≤ r.size
  pub few : r.size ≤ max_block
  pub all_there : entries_before i b + r.size ≤ length i.entries
  pub root : r.root ≡ tree_hash h (map entry_bytes (entries_in i b r))

-- ---- entries

-- no entry before place k has its id
abbrev pub IsNewId : List TxEntry → ℕ → TxEntry → Type 0
IsNewId entries k e = AllByRecursion (λ (before : TxEntry). before.id ≢ e.id) (take k entries)

-- some entry is of the transaction that made this start or end
abbrev pub HasEntry : List TxEntry → TableEvent → Type 0
HasEntry entries event = Any (λ (e : TxEntry). e.id ≡ event.1.0) entries

-- the starts and ends of all tables
abbrev pub events_of_image : Image → List TableEvent
events_of_image i = flat_map events_in (tables_in i)

-- each number below their count is one of them, once
abbrev pub AreNumbered : List ℕ → Type 0
AreNumbered ns = (n : ℕ) → n < length ns → length (filter (λ m. m == n) ns) ≡ 1

-- the numbers of a transaction's events in all tables
abbrev pub numbers_of : Image → ℕ → List ℕ
numbers_of i tx = map (λ (e : Event). e.seq) (all_events tx (tables_in i))

-- the entry has in a table the root that its events there have, and none where they have none
abbrev pub RootHolds : (List ℕ → List ℕ) → Image → TxEntry → ℕ → Type 0
RootHolds h i e table = root_at e.roots table ≡ root_at (roots_of h e.id (tables_in i)) table

-- the entry's events are numbered from 0 on, and its roots are theirs
pub record EntryHolds (h : List ℕ → List ℕ) (i : Image) (e : TxEntry) : Type 0 where
  pub numbers : AreNumbered (numbers_of i e.id)
  pub roots : (table : ℕ) → RootHolds h i e table

-- the place names the least table whose root is not that of the entry's events
abbrev pub IsLeastRoot : (List ℕ → List ℕ) → Image → TxEntry → Place → Type 0
IsLeastRoot h i e place =
    (table : ℕ) × (RootHolds h i e table → ⊥) × ((t : ℕ) → t < table → RootHolds h i e t)
    × (place ≡ at.Root e.id table)

-- the place names the numbers where they are at fault, and else the least table whose root is
abbrev pub IsEntryFault : (List ℕ → List ℕ) → Image → TxEntry → Place → Type 0
IsEntryFault h i e place =
    ((AreNumbered (numbers_of i e.id) → ⊥) × (place ≡ at.Numbers e.id))
    ⊎ (AreNumbered (numbers_of i e.id) × IsLeastRoot h i e place)

-- ---- versions

-- a table and a version of it, in its base or its history
abbrev pub TableVersion : Type 0
TableVersion = Table × Version

-- those of all tables
abbrev pub versions_of_image : Image → List TableVersion
versions_of_image i = flat_map (λ (t : Table). map (λ v. (t, v)) t.versions) (tables_in i)

-- the start of a version, with its table
abbrev pub start_of : TableVersion → TableEvent
start_of x = (x.0.def.id, x.1.start)

-- the earlier versions of its key
abbrev pub earlier_of : Image → TableVersion → List Version
earlier_of i x = before i.entries x.0.def.columns (with_columns x.0.def.columns x.0.versions) x.1

-- column n of the version's table, counted from 1, as of its start: the last row about it that started before
abbrev pub column_of : Image → TableVersion → ℕ → Option Version
column_of i x n = column_as_of i.entries (rows_of_columns i.tables) x.0.def.id n x.1.start

-- the value of column n is NULL where there is no such row, and isn't NULL where that row says NOT NULL
abbrev pub ValueHolds : Image → TableVersion → ℕ → Option TypedValue → Type 0
ValueHolds i x n v = MatchOption (column_of i x n) (v ≡ None) (λ r. says_not_null r ≡ true → v ≢ None)

-- The version fits its table: a value for each column, of its type, and NULL where the column takes it: in
-- a table of the system as it is defined, and in another as of the version's start. In
-- an append-only table it hasn't ended. If it stands, each earlier version of its key has ended. If it has
-- ended, that was behind its start; and at its start the latest of the earlier ones had ended. Keys are
-- compared among the versions that have the table's columns.
pub record VersionHolds (i : Image) (x : TableVersion) : Type 0 where
  pub columns : has_columns x.0.def.columns x.1.values ≡ true
  pub nulls : x.0.def.id ≤ columns_id → respects_not_null x.0.def.columns x.1.values ≡ true
  pub nulls_then : columns_id < x.0.def.id → HoldsOfEach (λ k. ValueHolds i x (k + 1)) x.1.values
  pub append_only : x.0.def.kind ≡ AppendOnly → x.1.end ≡ None
  pub key : x.1.end ≡ None → AllByRecursion (λ (w : Version). w.end ≢ None) (earlier_of i x)
  pub ends : IfSome x.1.end (λ end. is_before i.entries x.1.start end ≡ true)
  pub follows : IfSome (latest i.entries (earlier_of i x)) (λ w. ends_before i.entries w.end x.1.start ≡ true)

-- ---- definitions and indexes

-- the rows of the system's tables spell a definition with this id
abbrev pub IsEncodedAt : Image → ℤ → Type 0
IsEncodedAt i id =
    let first = base_rows i.tables 0 in
    let second = base_rows i.tables 1 in
    Any (λ (def : TableDef). (pos def.id ≡ id) × (is_encoded first second i.defs def ≡ true)) i.defs

-- a version of a user's table keeps the rules of changes, with the version of its key just before it
abbrev pub VersionRulesHold : Image → TableVersion → Type 0
VersionRulesHold i x =
    columns_id < x.0.def.id
    → VersionKeepsTheRules i.entries (rows_of_image i) (pos x.0.def.id) (last_before i x.0 x.1) x.1

-- the rows about the table with this id keep the rules of changes
abbrev pub TableRulesHold : Image → ℤ → Type 0
TableRulesHold i id = KeepsTheRules i.entries (rows_of_image i) id

-- the tables that rows of the system's tables are about, and those that are defined
abbrev pub ids_of_tables : Image → List ℤ
ids_of_tables i = all_ids (base_rows i.tables 0) (base_rows i.tables 1) i.defs

-- the definitions, each with the rows of its table
abbrev pub defs_and_rows : Image → List (TableDef × TableRows)
defs_and_rows i = zip (defs_in i) i.tables

-- index g, counted from 0, of a table has the rows of the base
abbrev pub IndexHolds : TableDef × TableRows → ℕ → IndexDef → Type 0
IndexHolds t g index = index_holds t.0 t.1 g index ≡ true

-- each index of a table has
abbrev pub IndexesHold : TableDef × TableRows → Type 0
IndexesHold t = HoldsOfEach (IndexHolds t) t.0.indexes

-- the place is the first index of the table whose rows are not the base's; indexes are counted from 1
abbrev pub IsIndexFault : TableDef × TableRows → Place → Type 0
IsIndexFault t place =
    (g : ℕ) × (index : IndexDef) × FailsFirst (IndexHolds t) t.0.indexes g index
    × (place ≡ at.Index t.0.id (g + 1))

-- ---- all of it

-- the image holds together and with the digests
pub record HoldsTogether (h : List ℕ → List ℕ) (i : Image) (digests : List HeldDigest) : Type 0 where
  pub digests_hold : AllByRecursion (DigestHolds h i) digests
  pub chain : HoldsOfEach (LinkHolds h i) i.blocks
  pub blocks : HoldsOfEach (BlockHolds h i) i.blocks
  pub ids : HoldsOfEach (IsNewId i.entries) i.entries
  pub events : AllByRecursion (HasEntry i.entries) (events_of_image i)
  pub entries : AllByRecursion (EntryHolds h i) i.entries
  pub versions : AllByRecursion (VersionHolds i) (versions_of_image i)
  pub version_rules : AllByRecursion (VersionRulesHold i) (versions_of_image i)
  pub definitions : AllByRecursion (IsEncodedAt i) (ids_of_tables i)
  pub table_rules : AllByRecursion (TableRulesHold i) (ids_of_rows i)
  pub indexes : AllByRecursion IndexesHold (defs_and_rows i)
