-- Counting in a journal.
use Rattle.std.specs.Prelude.{ℕ, zero, suc, ◌+◌, List, [], ◌∷◌, Option, Some, None}
use Rattle.sql_types.specs.declared.journal.JournalItem.{JournalItem}
use Rattle.sql_types.specs.declared.journal.JournalItem.TheVariants.{Tx, Close}

-- how many blocks
abbrev pub blocks : List JournalItem → ℕ
blocks [] = 0
blocks (Tx id session time explicit script ∷ is) = blocks is
blocks (Close k ∷ is) = blocks is + 1

-- how many transactions are in the first n blocks
abbrev pub in_blocks : ℕ → List JournalItem → ℕ
in_blocks zero J = 0
in_blocks (suc n) [] = 0
in_blocks (suc n) (Tx id session time explicit script ∷ is) = in_blocks (suc n) is
in_blocks (suc n) (Close k ∷ is) = k + in_blocks n is

-- the transaction with so many before it
abbrev pub nth_tx : ℕ → List JournalItem → Option JournalItem
nth_tx n [] = None
nth_tx n (Close k ∷ is) = nth_tx n is
nth_tx zero (Tx id session time explicit script ∷ is) = Some (Tx id session time explicit script)
nth_tx (suc n) (Tx id session time explicit script ∷ is) = nth_tx n is

-- the times of the transactions
abbrev pub times : List JournalItem → List ℕ
times [] = []
times (Tx id session time explicit script ∷ is) = time ∷ times is
times (Close k ∷ is) = times is

-- the ids of the transactions
abbrev pub ids_of : List JournalItem → List ℕ
ids_of [] = []
ids_of (Tx id session time explicit script ∷ is) = id ∷ ids_of is
ids_of (Close k ∷ is) = ids_of is
