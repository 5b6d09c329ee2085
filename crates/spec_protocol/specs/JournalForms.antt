-- The forms of what a server writes into its journal: names, moments and ids.
use Rattle.std.specs.Prelude.{ℕ, ◌≡◌, ◌≤◌, ◌^◌, true, List}
use mathlib.Core.Option.{some}
use lib.ListN.{get_elem?}
use Rattle.base_types.specs.DatabaseName.{is_database_name}
use Rattle.base_types.specs.Moment.{is_moment}
use Rattle.base_types.specs.SessionName.{is_session_name}
use Rattle.sql_types.specs.declared.journal.TheConstants.{JOURNAL_VERSION}
use Rattle.sql_types.specs.declared.journal.Journal.{Journal}
use Rattle.spec_history.specs.Lists.{Each}
use Rattle.spec_protocol.specs.Cells.{LedgerCell}
use Rattle.spec_protocol.specs.SeatNames.{names_of}
use Rattle.spec_protocol.specs.Seats.{SeatState}
use Rattle.spec_protocol.specs.TranscriptsAgree.{moments_of}

-- The database has the form of a name, and so have the sessions; times are moments; and the ids drawn are
-- below 2^63.
pub record HaveForms (ledger : LedgerCell) (seats : List SeatState) : Type 0 where
  pub database : is_database_name ledger.database ≡ true
  pub ids : ledger.next ≤ 2 ^ 63
  pub names : (j : ℕ) (s : SeatState) → get_elem? seats j ≡ some s
      → Each (λ name. is_session_name name ≡ true) (names_of s)
  pub moments : (j : ℕ) (s : SeatState) → get_elem? seats j ≡ some s
      → Each (λ time. is_moment time ≡ true) (moments_of s)

-- the journal of the ledger's cell
abbrev pub journal_in : LedgerCell → Journal
journal_in ledger = record { version = JOURNAL_VERSION; database = ledger.database; items = ledger.items }
