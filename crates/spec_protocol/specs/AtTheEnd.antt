-- The end: no session runs any more.
use Rattle.std.specs.Prelude.{ℕ, ◌≡◌, ◌≢◌, ◌⊎◌, ◌<◌, ◌≤◌, List, [], ◌∷◌, map, flat_map, length}
use mathlib.Core.Option.{some}
use lib.ListN.{get_elem?}
use Rattle.spec_history.specs.Inputs.{InputSession}
use Rattle.spec_history.specs.Lists.{Each, Some_of, At, In}
use Rattle.spec_history.specs.Transcripts.{Transcript}
use Rattle.spec_history.specs.Acts.{of}
use Rattle.spec_history.specs.Facts.{Fact, image, facts_of}
use Rattle.spec_history.specs.Histories.{AreOf}
use Rattle.spec_history.specs.Sessions.{gone, fresh}
use Rattle.spec_history.specs.Worlds.{first, run}
use Rattle.spec_protocol.specs.Cells.{LedgerCell}
use Rattle.spec_protocol.specs.Seats.{SeatState, Written, IsAtRest}
use Rattle.spec_protocol.specs.Server.{Server}
use Rattle.spec_protocol.specs.TranscriptsAgree.{IsImage}
use Rattle.spec_protocol.specs.StandTogether.{History}

-- at no seat does a session run
abbrev pub AllRest : List SeatState → Type 0
AllRest seats = (j : ℕ) (s : SeatState) → get_elem? seats j ≡ some s → IsAtRest s.role

-- a seat wrote this transcript, or took it in
pub record IsWritten (seats : List SeatState) (x : Transcript) : Type 0 where
  pub j : ℕ
  pub seat : SeatState
  pub there : get_elem? seats j ≡ some seat
  pub has : Some_of (λ w. w.transcript ≡ x) seat.written

-- these are the transcripts that the seats wrote, in the order in which their sessions are numbered, with
-- their statements
pub record AreWritten (history : History) (seats : List SeatState) (input : List InputSession)
    (X : List Transcript) : Type 0 where
  pub sessions : AreOf (run first history).at 0 input X
  -- these sessions are over, and no other did anything
  pub over : (n : ℕ) → n < length X → ((run first history).at n).phase ≡ gone
  pub no_others : (n : ℕ) → length X ≤ n → ((run first history).at n ≡ fresh) × (of n history ≡ [])
  pub written : (i : ℕ) (x : Transcript) → At X i x → IsWritten seats x
  pub all : (j : ℕ) (s : SeatState) → get_elem? seats j ≡ some s → Each (λ w. In w.transcript X) s.written

-- of two transcripts of this list, the names of their sessions differ
abbrev pub SessionsDiffer : List Transcript → Type 0
SessionsDiffer X = (i j : ℕ) (x y : Transcript) → At X i x → At X j y → i ≢ j → x.session ≢ y.session

-- the transcript at this place of the list that this seat has written
pub record WroteAt (seats : List SeatState) (seat place : ℕ) (x : Transcript) : Type 0 where
  pub state : SeatState
  pub there : get_elem? seats seat ≡ some state
  pub written : Written
  pub has : At state.written place written
  pub is : written.transcript ≡ x

-- of two transcripts that the seats wrote, the names of their sessions differ
abbrev pub NamesDiffer : List SeatState → Type 0
NamesDiffer seats = (j k m n : ℕ) (x y : Transcript) → WroteAt seats j m x → WroteAt seats k n y
    → (j ≡ k → m ≢ n) → x.session ≢ y.session

-- ---- setup

-- when any other of the sessions began that the seats wrote, its seat knew that this one was over
abbrev pub WasKnown : List SeatState → Transcript → Type 0
WasKnown seats x = (j : ℕ) (s : SeatState) → get_elem? seats j ≡ some s
    → Each (λ w. (w.transcript ≡ x) ⊎ In x w.earlier) s.written

-- ---- images

-- the number of items of an image that is answered
abbrev pub image_items : Fact → List ℕ
image_items (image items) = items ∷ []
image_items _ = []

-- the images that a seat kept for a transcript are those that it shows, with the bytes of the image of so
-- many items
pub record HasItsImages (v : Server) (ledger : LedgerCell) (w : Written) : Type 0 where
  pub shown : map (λ k. k.0) w.images ≡ flat_map image_items (facts_of v.meaning w.transcript)
  pub each : Each (IsImage v ledger) w.images
