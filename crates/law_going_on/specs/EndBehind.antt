-- The end of a run that goes on from a journal: no session runs any more.
use Rattle.std.specs.Prelude.{ℕ, ◌≡◌, List, length}
use mathlib.Core.Option.{some}
use lib.ListN.{get_elem?}
use Rattle.spec_history.specs.Histories.{AreOf, SessionsBelow}
use Rattle.spec_history.specs.Inputs.{InputSession}
use Rattle.spec_history.specs.Lists.{At, Each, In}
use Rattle.spec_history.specs.Transcripts.{Transcript}
use Rattle.spec_history.specs.Worlds.{first, run}
use Rattle.spec_protocol.specs.AtTheEnd.{IsWritten}
use Rattle.spec_protocol.specs.Seats.{SeatState}
use Rattle.spec_protocol.specs.StandTogether.{History}
use Rattle.law_behind.specs.Forgotten.{without}

-- these are the transcripts that the seats wrote besides that of the past, in the order in which their sessions are
-- numbered behind its first so many, with their statements
pub record AreWrittenBehind (count : ℕ) (events : History) (seats : List SeatState) (input : List InputSession)
    (X : List Transcript) : Type 0 where
  pub sessions : AreOf (run first (without count events)).at 0 input X
  pub below : SessionsBelow (length X) (without count events)
  pub written : (i : ℕ) (x : Transcript) → At X i x → IsWritten seats x
  pub all : (j : ℕ) (s : SeatState) → get_elem? seats j ≡ some s → Each (λ w. In w.transcript X) s.written
