-- What stands after any steps since the first cells.
use Rattle.std.proofs.Common.{◌≡◌, ◌≤◌, ℕ, List, [], ◌∷◌, map, ap, sym, ◌∙◌}
use mathlib.Core.Option.{some}
use Rattle.spec_model.specs.Limits.{max_block}
use Rattle.spec_history.specs.Lists.{Text}
use Rattle.spec_protocol.specs.Cells.{Cell, Ledger, LedgerCell, first_cells, first_ledger}
use Rattle.spec_protocol.specs.AnonymousActs.{anonymous_act, steps_anonymous_acts}
use Rattle.spec_protocol.specs.Follows.{Follows, steps_lines}
use Rattle.spec_protocol.specs.LocksDecideIn.{LocksDecideIn}
use Rattle.spec_protocol.specs.AllowedVisit.{first_seat}
use Rattle.spec_protocol.specs.Seats.{SeatState}
use Rattle.spec_protocol.specs.Server.{Server}
use Rattle.spec_protocol.specs.StandTogether.{Stands, StandsLater, StandTogether}
use Rattle.spec_history.specs.Histories.{OneAtATime}
use Rattle.spec_history.specs.Worlds.{first}
use Rattle.spec_protocol.specs.Steps.{Steps}
use Rattle.spec_protocol.specs.OneByOne.{OneByOne}
use Rattle.law_protocol.proofs.Beginning.{begins, none_asked, none_requested}
use Rattle.law_protocol.proofs.StepsKeep.{all_alone}

-- they stand together, with this database and block size, and the history is that of the steps
pub record SinceFirst (v : Server) (database : Text) (size : ℕ) (cells : List Cell) (seats : List SeatState) (steps : Steps v (first_cells database size) (first_seat (first_cells database size) ∷ []) cells seats) : Type 0 where
  pub later : StandTogether v cells seats
  pub are : map anonymous_act later.history ≡ steps_anonymous_acts steps
  pub follows : Follows first later.history (steps_lines steps)
  pub locks_decide : LocksDecideIn v [] later.history
  pub one_at_a_time : OneByOne steps → OneAtATime first later.history
  pub same_database : later.stands.ledger.database ≡ database
  pub same_size : later.stands.ledger.block_size ≡ size

pub since_first : (v : Server) (database : Text) (size : ℕ) → 1 ≤ size → size ≤ max_block → (cells : List Cell) (seats : List SeatState) (steps : Steps v (first_cells database size) (first_seat (first_cells database size) ∷ []) cells seats) → SinceFirst v database size cells seats steps
since_first v database size some_size most cells seats steps = record {
  later = record { history = done.0.events; stands = done.0.stands; locks_were_asked = done.0.locks_were_asked; locks_are_requested = done.0.locks_are_requested };
  are = done.0.are;
  follows = done.0.follows;
  locks_decide = done.0.locks_decide;
  one_at_a_time = done.1;
  same_database = done.0.database ∙ ap (λ (l : LedgerCell). l.database) (sym is);
  same_size = done.0.block_size ∙ ap (λ (l : LedgerCell). l.block_size) (sym is);
}
  where
    st : Stands v [] (first_cells database size) (first_seat (first_cells database size) ∷ [])
    st = begins database size v some_size most

    -- the ledger's cell at the beginning
    is : first_ledger database size ≡ st.ledger
    is = let f : some (Ledger (first_ledger database size)) ≡ some (Ledger st.ledger) = st.are_cells.has_ledger in cc

    done : (later : StandsLater st (steps_anonymous_acts steps) (steps_lines steps) cells seats) × (OneByOne steps → OneAtATime first later.events)
    done = all_alone v (first_cells database size) (first_seat (first_cells database size) ∷ []) st (none_asked database size v st) (none_requested database size v) cells seats steps
