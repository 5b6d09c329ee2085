-- What a journal keeps whatever its statements mean: the side rules of its items, by themselves and among
-- each other.
use Rattle.std.specs.Prelude.{ℕ, ◌≡◌, ◌+◌, ◌-◌, ◌==◌, ◌&&◌, ◌||◌, not, nat_le, Bool, true, List, [], ◌∷◌, length}
use Rattle.std.specs.List.{AllByRecursion, list_any}
use Rattle.sql_value.specs.DatabaseName.{is_database_name}
use Rattle.sql_value.specs.Ids.{is_tx_id}
use Rattle.sql_value.specs.Moment.{is_moment}
use Rattle.sql_value.specs.SessionName.{is_session_name}
use Rattle.sql_types.specs.declared.journal.TheConstants.{MAX_BLOCK}
use Rattle.sql_types.specs.declared.journal.Journal.{Journal}
use Rattle.sql_types.specs.declared.journal.JournalItem.{JournalItem}
use Rattle.sql_types.specs.declared.journal.JournalItem.TheVariants.{Tx, Close}
use Rattle.sql_types.specs.Versions.{is_version}

-- a statement's text and the text of its reply
abbrev pub Line : Type 0
Line = List ℕ × List ℕ

-- ---- one item

-- a transaction that BEGIN did not open has one statement
abbrev pub is_alone : Bool → List Line → Bool
is_alone explicit lines = explicit || length lines == 1

-- of a transaction
pub record TxRules (number : ℕ) (name : List ℕ) (ticks : ℕ) (explicit : Bool) (lines : List Line) : Type 0 where
  pub id : is_tx_id number ≡ true
  pub session : is_session_name name ≡ true
  pub time : is_moment ticks ≡ true
  pub alone : is_alone explicit lines ≡ true

-- a block has 1 to 100,000 transactions
abbrev pub is_block_size : ℕ → Bool
is_block_size k = nat_le 1 k && nat_le k MAX_BLOCK

abbrev pub ItemRules : JournalItem → Type 0
ItemRules (Tx id session time explicit lines) = TxRules id session time explicit lines
ItemRules (Close k) = is_block_size k ≡ true

-- ---- all items

-- the id is one of these
abbrev pub is_among : ℕ → List ℕ → Bool
is_among id ids = list_any (λ other. id == other) ids

-- the ids of the transactions are none of those before, and all different
abbrev pub ids_differ : List ℕ → List JournalItem → Bool
ids_differ before [] = true
ids_differ before (Tx id session time explicit lines ∷ items) =
    not (is_among id before) && ids_differ (id ∷ before) items
ids_differ before (Close k ∷ items) = ids_differ before items

-- with so many pending before, each closing takes no more than are pending there
abbrev pub closes_follow : ℕ → List JournalItem → Bool
closes_follow pending [] = true
closes_follow pending (Tx id session time explicit lines ∷ items) = closes_follow (pending + 1) items
closes_follow pending (Close k ∷ items) = nat_le k pending && closes_follow (pending - k) items

-- ---- the journal

pub record JournalRules (j : Journal) : Type 0 where
  pub version : is_version j.version ≡ true
  pub database : is_database_name j.database ≡ true
  pub items : AllByRecursion ItemRules j.items
  pub ids : ids_differ [] j.items ≡ true
  pub closes : closes_follow 0 j.items ≡ true
