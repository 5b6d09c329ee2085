-- The tables that a journal leads to, one transaction after another, and when a journal is legal.
use Rattle.std.specs.Prelude.{ℕ, zero, suc, ◌+◌, ◌≤◌, ◌≡◌, ◌≢◌, Bool, List, [], ◌∷◌, ◌++◌, map, take}
use Rattle.std.specs.List.{AllByRecursion}
use Rattle.sql_types.specs.declared.journal.JournalItem.{JournalItem}
use Rattle.sql_types.specs.declared.journal.JournalItem.TheVariants.{Tx, Close}
pub use Rattle.sql_types.specs.JournalRules.{Line}
use Rattle.spec_model.specs.Limits.{max_block}
use Rattle.spec_model.specs.Catalog.{Tables}
use Rattle.spec_model.specs.Replies.{reply_text}
use Rattle.spec_model.specs.Script.{Reading, ScriptEnd, script}
use Rattle.spec_model.specs.Events.{all_events}
use Rattle.spec_model.specs.SystemTables.{first_tables}

-- ---- parts of a journal

-- the first m items
abbrev pub cut : List JournalItem → ℕ → List JournalItem
cut items m = take m items

-- the number of transactions
abbrev pub tx_count : List JournalItem → ℕ
tx_count [] = 0
tx_count (Tx id session time explicit lines ∷ is) = suc (tx_count is)
tx_count (Close k ∷ is) = tx_count is

-- how many transactions are in blocks
abbrev pub closed : List JournalItem → ℕ
closed [] = 0
closed (Tx id session time explicit lines ∷ is) = closed is
closed (Close k ∷ is) = k + closed is

-- up to the n-th transaction with it; nothing for 0
abbrev pub upto : List JournalItem → ℕ → List JournalItem
upto is zero = []
upto [] (suc n) = []
upto (Tx id session time explicit lines ∷ is) (suc n) = Tx id session time explicit lines ∷ upto is n
upto (Close k ∷ is) (suc n) = Close k ∷ upto is (suc n)

-- no transaction of this id
abbrev pub IsOther : ℕ → JournalItem → Type 0
IsOther id (Tx other session time explicit lines) = other ≢ id
IsOther id (Close k) = Unit {0}

-- ---- serial execution

module _ (reads : Reading) where
  -- the tables after an item: a transaction does what its script does, the closing of a block nothing
  abbrev pub after_item : Tables → JournalItem → Tables
  after_item tables (Tx id session time explicit lines) =
      (script reads explicit tables id (map (λ l. l.0) lines)).state.tables
  after_item tables (Close k) = tables

  -- the tables after all items
  unfoldable pub serial_from : Tables → List JournalItem → Tables
  serial_from tables [] = tables
  serial_from tables (i ∷ is) = serial_from (after_item tables i) is

  abbrev pub serial : List JournalItem → Tables
  serial items = serial_from first_tables items

  -- ---- legal journals

  -- what the journal keeps of a transaction is what its script gives over the tables before it, and it left
  -- an event
  pub record AgreesWith (tables : Tables) (id : ℕ) (explicit : Bool) (lines : List Line)
      (o : ScriptEnd) : Type 0 where
    pub replies : map (λ l. l.1) lines ≡ map reply_text o.replies
    pub events : all_events id o.state.tables ≢ []

  -- an item that may stand behind `before`, whose transactions led to these tables
  abbrev pub IsNext : List JournalItem → Tables → JournalItem → Type 0
  IsNext before tables (Tx id session time explicit lines) =
      AgreesWith tables id explicit lines (script reads explicit tables id (map (λ l. l.0) lines))
      × AllByRecursion (IsOther id) before
  IsNext before tables (Close k) = (1 ≤ k) × (k ≤ max_block) × (closed before + k ≤ tx_count before)

  abbrev pub IsLegalFrom : List JournalItem → Tables → List JournalItem → Type 0
  IsLegalFrom before tables [] = Unit {0}
  IsLegalFrom before tables (i ∷ is) =
      IsNext before tables i × IsLegalFrom (before ++ i ∷ []) (after_item tables i) is

  -- a journal that could have been made: each reply is the one that its script gives over the tables so far,
  -- each
  -- transaction left an event, ids differ, and blocks are closed of what is pending
  abbrev pub IsLegal : List JournalItem → Type 0
  IsLegal items = IsLegalFrom [] first_tables items
