-- What stands after any steps since a start.
use Rattle.std.proofs.Common.{◌≡◌, ℕ, List, [], ◌∷◌, ◌++◌, map, ◌∙◌, subst}
use Rattle.spec_history.specs.Histories.{OneAtATime}
use Rattle.spec_history.specs.Inputs.{InputLine}
use Rattle.spec_history.specs.Lists.{Text}
use Rattle.spec_history.specs.Worlds.{first, run}
use Rattle.spec_protocol.specs.AllowedVisit.{first_seat}
use Rattle.spec_protocol.specs.AnonymousActs.{anonymous_act, steps_anonymous_acts}
use Rattle.spec_protocol.specs.Cells.{Cell}
use Rattle.spec_protocol.specs.Contents.{contents}
use Rattle.spec_protocol.specs.Follows.{Follows, steps_lines}
use Rattle.spec_protocol.specs.LocksAreRequested.{LocksAreRequested}
use Rattle.spec_protocol.specs.LocksDecideIn.{LocksDecideIn}
use Rattle.spec_protocol.specs.OneByOne.{OneByOne}
use Rattle.spec_protocol.specs.Seats.{SeatState}
use Rattle.spec_protocol.specs.Server.{Server}
use Rattle.spec_protocol.specs.StandTogether.{History, LocksAskedFor, Stands, StandsLater}
use Rattle.spec_protocol.specs.Steps.{Steps}
use Rattle.law_protocol.proofs.StepsKeep.{all_alone}
use Rattle.law_going_on.specs.Start.{Start}
use Rattle.law_sequential.proofs.InFront.{all_behind, one_by_one_behind, same_acts, same_lines}

module _ {v : Server} {database : Text} {size : ℕ} (start : Start v database size) where
  -- They stand together with the seat of the past, with this database and block size, and the history since the
  -- start is that of the steps.
  pub record SinceStart (cells : List Cell) (seats : List SeatState) (steps : Steps v start.cells (first_seat start.cells ∷ []) cells seats) : Type 0 where
    pub events : History
    pub stands : Stands v (start.history ++ events) cells (start.seat ∷ seats)
    pub asked : LocksAskedFor stands
    pub requested : LocksAreRequested v (contents cells) (start.seat ∷ seats)
    pub are : map anonymous_act events ≡ steps_anonymous_acts steps
    pub follows : Follows (run first start.history) events (steps_lines steps)
    pub locks_decide : LocksDecideIn v start.history events
    pub one_at_a_time : OneByOne steps → OneAtATime (run first start.history) events
    pub same_database : stands.ledger.database ≡ database
    pub same_size : stands.ledger.block_size ≡ size

  module _ (cells : List Cell) (seats : List SeatState) (steps : Steps v start.cells (first_seat start.cells ∷ []) cells seats) where
    abbrev with_past : Steps v start.cells (start.seat ∷ first_seat start.cells ∷ []) cells (start.seat ∷ seats)
    with_past = all_behind start.seat v start.cells (first_seat start.cells ∷ []) cells seats steps

    done : (later : StandsLater start.stands (steps_anonymous_acts with_past) (steps_lines with_past) cells (start.seat ∷ seats)) × (OneByOne with_past → OneAtATime (run first start.history) later.events)
    done = all_alone v start.cells (start.seat ∷ first_seat start.cells ∷ []) start.stands start.asked start.wanted cells (start.seat ∷ seats) with_past

    pub since_start : SinceStart cells seats steps
    since_start = record {
      events = done.0.events;
      stands = done.0.stands;
      asked = done.0.locks_were_asked;
      requested = done.0.locks_are_requested;
      are = done.0.are ∙ same_acts start.seat v start.cells (first_seat start.cells ∷ []) cells seats steps;
      follows = subst (λ (ls : List InputLine). Follows (run first start.history) done.0.events ls) (same_lines start.seat v start.cells (first_seat start.cells ∷ []) cells seats steps) done.0.follows;
      locks_decide = done.0.locks_decide;
      one_at_a_time = λ one. done.1 (one_by_one_behind start.seat v start.rests start.cells (first_seat start.cells ∷ []) cells seats steps one);
      same_database = done.0.database ∙ start.of_database;
      same_size = done.0.block_size ∙ start.of_size;
    }
