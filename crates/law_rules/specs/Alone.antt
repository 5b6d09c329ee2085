-- Transactions that BEGIN did not open.
use Rattle.std.specs.Prelude.{◌≡◌, true}
use Rattle.sql_types.specs.declared.journal.JournalItem.{JournalItem}
use Rattle.sql_types.specs.declared.journal.JournalItem.TheVariants.{Tx, Close}
use Rattle.sql_types.specs.JournalRules.{is_alone}

-- one that BEGIN did not open has one statement, as each journal with a spelling has it
abbrev pub HasOneStatement : JournalItem → Type 0
HasOneStatement (Tx id session time explicit lines) = is_alone explicit lines ≡ true
HasOneStatement (Close k) = Unit {0}
