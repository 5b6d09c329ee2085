-- Reading a journal from left to right.
use Rattle.std.specs.Prelude.{ℕ, Bool, true, false, ◌&&◌, ◌==◌, List, [], Option, Some, None, codes, if◌then◌else◌}
use Rattle.std.specs.Str.{is_utf8}
use Rattle.base_fields.specs.Forms.{tx_id_at, moment_at, session_at, database_at}
use Rattle.base_fields.specs.Readers.{Reader, ◌>>=◌, u8_at, u32_at, u64_at, wide_at, after, both, mapped, decoded, where_, listed}
use Rattle.sql_types.specs.declared.journal.Journal.{Journal}
use Rattle.sql_types.specs.declared.journal.JournalItem.{JournalItem}
use Rattle.sql_types.specs.declared.journal.JournalItem.TheVariants.{Tx, Close}
use Rattle.sql_types.specs.Versions.{is_version}
use Rattle.sql_types.specs.JournalRules.{Line, is_alone, is_block_size, ids_differ, closes_follow}

-- the text of a statement or of a reply, if it is UTF-8
unfoldable pub text_at : Reader (List ℕ)
text_at = where_ is_utf8 wide_at

-- a statement and its reply
unfoldable pub statement_at : Reader Line
statement_at = both text_at text_at

-- the count of the statements, and each of them
unfoldable pub script_at : Reader (List Line)
script_at = listed u64_at statement_at

-- ---- a transaction

-- what the flag says, if it is one
abbrev pub explicit_of : ℕ → Option Bool
explicit_of n = if n == 0 then Some false else (if n == 1 then Some true else None)

-- whether BEGIN opened the transaction
unfoldable pub opened_at : Reader Bool
opened_at = decoded explicit_of u8_at

-- whether BEGIN opened the transaction, and its statements
abbrev pub Run : Type 0
Run = Bool × List Line

-- one statement where BEGIN did not open it
abbrev pub is_run : Run → Bool
is_run x = is_alone x.0 x.1

-- both, if they stand together
unfoldable pub run_at : Reader Run
run_at = where_ is_run (both opened_at script_at)

-- id, session, time and run
abbrev pub TxParts : Type 0
TxParts = ℕ × (List ℕ × (ℕ × Run))

-- the transaction of these parts
abbrev pub tx_from : TxParts → JournalItem
tx_from x = Tx x.0 x.1.0 x.1.1.0 x.1.1.1.0 x.1.1.1.1

-- a transaction, behind its kind
unfoldable pub tx_at : Reader JournalItem
tx_at = mapped tx_from (both tx_id_at (both session_at (both moment_at run_at)))

-- ---- items

-- the closing of so many
abbrev pub close_from : ℕ → JournalItem
close_from k = Close k

-- a closing, behind its kind
unfoldable pub close_at : Reader JournalItem
close_at = mapped close_from (where_ is_block_size u32_at)

-- the item that stands behind a 1 or a 2
unfoldable pub item_behind : ℕ → Reader JournalItem
item_behind kind bytes = if kind == 1 then tx_at bytes else (if kind == 2 then close_at bytes else None)

-- the kind in a byte, and the item
unfoldable pub item_at : Reader JournalItem
item_at bytes = u8_at bytes >>= λ kind. item_behind kind.0 kind.1

-- the ids differ, and the closings follow what they close
abbrev pub are_consistent : List JournalItem → Bool
are_consistent items = ids_differ [] items && closes_follow 0 items

-- the count of the items, and each of them, if they stand together
unfoldable pub items_at : Reader (List JournalItem)
items_at = where_ are_consistent (listed u64_at item_at)

-- ---- the journal

-- the version in a byte, if there is such a version
unfoldable pub version_at : Reader ℕ
version_at = where_ is_version u8_at

-- version, database and items
abbrev pub JournalParts : Type 0
JournalParts = ℕ × (List ℕ × List JournalItem)

-- the journal of these parts
abbrev pub journal_from : JournalParts → Journal
journal_from x = record { version = x.0; database = x.1.0; items = x.1.1 }

-- the head and the items
unfoldable pub journal_at : Reader Journal
journal_at = mapped journal_from (after (codes "LGJN") (both version_at (both database_at items_at)))
