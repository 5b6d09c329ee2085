-- Transcripts agree so far: they are the parts of one history in which each act might happen when it did.
use Rattle.std.specs.Prelude.{ℕ, ◌≡◌, ◌<◌, ◌≤◌, ◌++◌, true, List, [], ◌∷◌, map, flat_map, length, Option, Some}
use mathlib.Core.Option.{some}
use lib.ListN.{get_elem?}
use Rattle.spec_model.specs.Journals.{tx_count, cut}
use Rattle.spec_history.specs.Lists.{Each, In}
use Rattle.spec_history.specs.Journals.{times}
use Rattle.spec_history.specs.Facts.{Shows}
use Rattle.spec_history.specs.Acts.{SessionAct, keeps, Act, of, marked}
use Rattle.spec_history.specs.Sessions.{fresh}
use Rattle.spec_history.specs.Worlds.{first, run}
use Rattle.spec_history.specs.Guards.{Good}
use Rattle.spec_protocol.specs.Server.{Server, journal_image}
use Rattle.spec_protocol.specs.Cells.{LedgerCell}
use Rattle.spec_protocol.specs.Seats.{KeptImage, Role, session, Written, SeatState}
use Rattle.spec_protocol.specs.Parts.{Numbers, all_of, Sessions}

-- ---- what a seat keeps

abbrev pub session_moments : Role → List ℕ
session_moments (session x) = x.moments
session_moments _ = []

-- the moments of its commits and digests
abbrev pub moments_of : SeatState → List ℕ
moments_of s = flat_map (λ x. x.moments) s.written ++ session_moments s.role

-- a moment of some seat
pub record IsMoment (seats : List SeatState) (time : ℕ) : Type 0 where
  pub j : ℕ
  pub seat : SeatState
  pub there : get_elem? seats j ≡ some seat
  pub is : In time (moments_of seat)

-- the number of items of an image that it kept
abbrev pub image_of : SessionAct → List ℕ
image_of (keeps items mark) = items ∷ []
image_of _ = []

-- each m is at most the number of the journal's items, and the bytes are those of the image of its first m
-- items
pub record IsImage (v : Server) (ledger : LedgerCell) (k : KeptImage) : Type 0 where
  pub within : k.0 ≤ length ledger.items
  pub bytes : k.1 ≡ journal_image v ledger.database (cut ledger.items k.0)

-- the images that a seat kept are those of its sessions' acts, which their replies show
pub record AreImages (v : Server) (ledger : LedgerCell) (acts : List SessionAct)
    (images : List KeptImage) : Type 0 where
  pub shown : map (λ k. k.0) images ≡ flat_map image_of acts
  pub each : Each (IsImage v ledger) images

module _ (v : Server) (h : List Act) (ledger : LedgerCell) where
  abbrev pub ImagesOfPast : List ℕ → List Written → Type 0
  ImagesOfPast (n ∷ ns) (x ∷ xs) = AreImages v ledger (of n h) x.images × ImagesOfPast ns xs
  ImagesOfPast _ _ = Unit {0}

  abbrev pub ImagesNow : Option ℕ → Role → Type 0
  ImagesNow (Some n) (session x) = AreImages v ledger (of n h) x.images
  ImagesNow _ _ = Unit {0}

  -- its marks are from its least to its greatest
  abbrev pub MarksWithin : SeatState → ℕ → Type 0
  MarksWithin s n = Shows marked (λ m. (s.least ≤ m) × (m ≤ s.greatest)) (of n h)

  pub record SeatAgrees (m : Numbers) (s : SeatState) : Type 0 where
    pub sessions : Sessions h v.meaning m s
    -- the seat has the journal's database and the block size of the ledger's cell
    pub database : s.present ≡ true → s.database ≡ ledger.database
    pub block_size : s.present ≡ true → s.block_size ≡ ledger.block_size
    -- no mark is above the number of transactions in the journal, and none is below its seat's least mark
    pub marks : Each (MarksWithin s) (all_of m)
    pub greatest : (s.least ≤ s.greatest) × (s.greatest ≤ tx_count ledger.items)
    -- the images that it kept
    pub past_images : ImagesOfPast m.past s.written
    pub images : ImagesNow m.now s.role

-- ---- all

pub record TranscriptsAgree (v : Server) (h : List Act) (ledger : LedgerCell)
    (seats : List SeatState) : Type 0 where
  -- each act of the history might happen when it did; so what the sessions have shown so far meets the rules
  -- of agreement
  pub good : Good v.meaning ledger.database first h
  -- the history leads to the journal, the digests and the next id of the ledger's cell
  pub items : (run first h).items ≡ ledger.items
  pub next : (run first h).next ≡ ledger.next
  pub issued : (run first h).issued ≡ ledger.issued
  -- each seat has transcripts of its own
  pub of_seat : ℕ → Numbers
  pub agree : (j : ℕ) (s : SeatState) → get_elem? seats j ≡ some s → SeatAgrees v h ledger (of_seat j) s
  -- and each session is one seat's
  pub owner : ℕ → ℕ
  pub own : (j : ℕ) (s : SeatState) → get_elem? seats j ≡ some s
      → Each (λ n. owner n ≡ j) (all_of (of_seat j))
  -- the sessions of the history are the first so many, and each is some seat's
  pub count : ℕ
  pub all : (n : ℕ) → n < count → (s : SeatState) × (get_elem? seats (owner n) ≡ some s)
      × In n (all_of (of_seat (owner n)))
  pub no_others : (n : ℕ) → count ≤ n → ((run first h).at n ≡ fresh) × (of n h ≡ [])
  -- each time in the journal, and each moment at which a digest was made, is one of the moments of a seat
  pub times : Each (IsMoment seats) (times ledger.items)
  pub made : Each (λ d. IsMoment seats d.made) ledger.issued
