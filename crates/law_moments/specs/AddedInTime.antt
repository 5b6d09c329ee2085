-- When what is new in a journal has moments of seats, and closings of at most the block size.
use Rattle.std.specs.Prelude.{ℕ, ◌≡◌, ◌≤◌, ◌++◌, List}
use Rattle.sql_types.specs.declared.journal.JournalItem.{JournalItem}
use Rattle.sql_types.specs.declared.journal.JournalItem.TheVariants.{Tx, Close}
use Rattle.spec_history.specs.Journals.{times}
use Rattle.spec_history.specs.Lists.{Each}
use Rattle.spec_protocol.specs.Cells.{LedgerCell}
use Rattle.spec_protocol.specs.Seats.{SeatState}
use Rattle.spec_protocol.specs.TranscriptsAgree.{IsMoment}

-- a closing is at most this block size
abbrev pub FitsBlock : ℕ → JournalItem → Type 0
FitsBlock size (Tx id session time explicit script) = Unit {0}
FitsBlock size (Close k) = k ≤ size

-- the journal of the ledger's cell goes on from these items; each closing behind them is at most the cell's block
-- size; each time of the items behind them is a moment of one of these seats, and so is each moment at which a
-- digest was made
pub record AddedInTime (past : List JournalItem) (seats : List SeatState) (ledger : LedgerCell) : Type 0 where
  pub added : List JournalItem
  pub are : ledger.items ≡ past ++ added
  pub closings : Each (FitsBlock ledger.block_size) added
  pub times : Each (IsMoment seats) (times added)
  pub made : Each (λ d. IsMoment seats d.made) ledger.issued
