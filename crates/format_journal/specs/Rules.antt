-- Which journals have a spelling.
use Rattle.std.specs.Prelude.{◌≡◌, ◌<◌, ◌^◌, ℕ, Bool, true, List, [], length}
use Rattle.std.specs.List.{AllByRecursion}
use Rattle.std.specs.Str.{is_utf8}
use Rattle.base_types.specs.DatabaseName.{is_database_name}
use Rattle.sql_types.specs.declared.journal.Journal.{Journal}
use Rattle.sql_types.specs.declared.journal.JournalItem.{JournalItem}
use Rattle.sql_types.specs.declared.journal.JournalItem.TheVariants.{Tx, Close}
use Rattle.sql_types.specs.Versions.{is_version}
use Rattle.sql_types.specs.JournalRules.{Line, TxRules, is_block_size, ids_differ, closes_follow}

-- UTF-8, as long as 8 bytes can tell
pub record IsText (text : List ℕ) : Type 0 where
  pub utf8 : is_utf8 text ≡ true
  pub size : length text < 2 ^ 64

-- statement and reply are texts
abbrev pub IsStatement : Line → Type 0
IsStatement s = IsText s.0 × IsText s.1

-- as many statements as 8 bytes can tell, each a text with the text of its reply
abbrev pub AreTexts : List Line → Type 0
AreTexts statements = (length statements < 2 ^ 64) × AllByRecursion IsStatement statements

-- so it is with those of an item
abbrev pub HasTexts : JournalItem → Type 0
HasTexts (Tx id session time explicit script) = AreTexts script
HasTexts (Close k) = Unit {0}

-- a transaction that has a spelling: it keeps the side rules
pub record IsTx (n : ℕ) (name : List ℕ) (ticks : ℕ)
    (explicit : Bool) (statements : List Line) : Type 0 where
  pub rules : TxRules n name ticks explicit statements
  pub count : length statements < 2 ^ 64
  pub texts : AllByRecursion IsStatement statements

-- an item that has a spelling
abbrev pub IsItem : JournalItem → Type 0
IsItem (Tx id session time explicit script) = IsTx id session time explicit script
IsItem (Close k) = is_block_size k ≡ true

-- a journal that has a spelling
pub record IsJournal (j : Journal) : Type 0 where
  pub version : is_version j.version ≡ true
  pub database : is_database_name j.database ≡ true
  pub count : length j.items < 2 ^ 64
  pub items : AllByRecursion IsItem j.items
  pub ids : ids_differ [] j.items ≡ true
  pub closes : closes_follow 0 j.items ≡ true
