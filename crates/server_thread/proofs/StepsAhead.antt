-- Steps that a seat made alone and that the board doesn't know yet are part of its next visit.
use Rattle.std.proofs.Common.{◌≡◌, ℕ, List, ◌++◌, slice_set}
use mathlib.Core.Option.{some}
use lib.ListN.{get_elem?}
use Rattle.spec_protocol.specs.Alone.{Alones, none, more}
use Rattle.spec_protocol.specs.Cells.{Cell}
use Rattle.spec_protocol.specs.AllowedVisit.{AllowedVisit}
use Rattle.spec_protocol.specs.Seats.{SeatState}
use Rattle.spec_protocol.specs.Server.{Server}
use Rattle.spec_protocol.specs.StandTogether.{StandTogether}
use Rattle.server_board.proofs.AlonesKeep.{alones_one}

module _ (v : Server) where
  pub steps_both : (s t u : SeatState) → Alones v s t → Alones v t u → Alones v s u
  steps_both s t u a none = a
  steps_both s t u a (more {t = w} steps step) = more (steps_both s t w a steps) step

  pub may_behind : (s t u : SeatState) (out : List (ℕ × Cell)) (i : ℕ) (c : Cell) → Alones v s t → AllowedVisit v t out i c u → AllowedVisit v s out i c u
  may_behind s t u out i c steps m = record {
    visit = m.visit;
    old = m.old;
    rest = m.rest;
    is_out = m.is_out;
    begun = m.begun;
    before = steps_both s t m.begun steps m.before;
    ended = m.ended;
    happens = m.happens;
    after = m.after;
  }

  -- behind these steps the seat still stands together with all others
  pub stand_ahead : (cells : List Cell) (seats : List SeatState) → StandTogether v cells seats → (j : ℕ) (s t : SeatState) → get_elem? seats j ≡ some s → Alones v s t → StandTogether v cells (slice_set seats j t)
  stand_ahead cells seats w j s t there steps = let o = alones_one v cells seats w.stands w.locks_were_asked w.locks_are_requested j s t there steps in record {
    history = w.history ++ o.goes.events;
    stands = o.goes.stands;
    locks_were_asked = o.goes.locks_were_asked;
    locks_are_requested = o.goes.locks_are_requested;
  }
