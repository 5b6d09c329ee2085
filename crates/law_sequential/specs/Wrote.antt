-- What seats wrote whose sessions are all over: the first one nothing, and each other one transcript.
use Rattle.std.specs.Prelude.{◌≡◌, List, [], ◌∷◌, map}
use Rattle.spec_history.specs.Transcripts.{Transcript}
use Rattle.spec_protocol.specs.Seats.{SeatState, Written, IsAtRest}

-- its session is over, and this is what it wrote
pub record WroteOne (s : SeatState) (w : Written) : Type 0 where
  pub rests : IsAtRest s.role
  pub wrote : s.written ≡ w ∷ []

abbrev pub WroteEach : List SeatState → List Written → Type 0
WroteEach [] [] = Unit {0}
WroteEach (s ∷ ss) (w ∷ ws) = WroteOne s w × WroteEach ss ws
WroteEach _ _ = ⊥

pub record Wrote (seats : List SeatState) (written : List Written) : Type 0 where
  pub parent : SeatState
  pub others : List SeatState
  pub are : seats ≡ parent ∷ others
  pub rests : IsAtRest parent.role
  pub none : parent.written ≡ []
  pub each : WroteEach others written

-- the transcripts
abbrev pub transcripts_in : List Written → List Transcript
transcripts_in written = map (λ w. w.transcript) written
