-- A journal: its one spelling in bytes.
use Rattle.std.specs.Prelude.{ℕ, Bool, List, ◌++◌, length, flat_map, codes, if◌then◌else◌}
use Rattle.base_fields.specs.Fields.{u8_field, u32_field, u64_field, short_field, wide_field}
use Rattle.sql_types.specs.declared.journal.Journal.{Journal}
use Rattle.sql_types.specs.declared.journal.JournalItem.{JournalItem}
use Rattle.sql_types.specs.declared.journal.JournalItem.TheVariants.{Tx, Close}
use Rattle.sql_types.specs.JournalRules.{Line}

-- the text and the reply, each behind its length in 8 bytes
abbrev pub statement_bytes : Line → List ℕ
statement_bytes s = wide_field s.0 ++ wide_field s.1

-- the count of the statements in 8 bytes, and each of them
abbrev pub script_bytes : List Line → List ℕ
script_bytes script = u64_field (length script) ++ flat_map statement_bytes script

-- 1 where BEGIN opened the transaction
abbrev pub explicit_bytes : Bool → List ℕ
explicit_bytes explicit = u8_field (if explicit then 1 else 0)

-- a transaction behind 1: its id, session, time, whether BEGIN opened it, and its statements; a closing
-- behind 2
abbrev pub item_bytes : JournalItem → List ℕ
item_bytes (Tx id session time explicit script) =
    u8_field 1 ++ (u64_field id ++ (short_field session ++
    (u64_field time ++ (explicit_bytes explicit ++ script_bytes script))))
item_bytes (Close k) = u8_field 2 ++ u32_field k

-- the count of the items in 8 bytes, and each of them
abbrev pub items_bytes : List JournalItem → List ℕ
items_bytes items = u64_field (length items) ++ flat_map item_bytes items

-- `LGJN`, the version, the database, and the items
unfoldable pub journal_bytes : Journal → List ℕ
journal_bytes j = codes "LGJN" ++ (u8_field j.version ++ (short_field j.database ++ items_bytes j.items))
