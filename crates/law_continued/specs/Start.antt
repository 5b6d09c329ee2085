-- Where a server starts: with a journal that was there before, or with none.
use Rattle.std.specs.Prelude.{ℕ, suc, ◌≡◌, ◌<◌, false, List, [], ◌∷◌, flat_map, map}
use Rattle.spec_history.specs.Acts.{assigned_id, of}
use Rattle.spec_history.specs.Lists.{Each, In, Text}
use Rattle.spec_history.specs.Worlds.{first, run}
use Rattle.spec_protocol.specs.AllowedVisit.{first_seat}
use Rattle.spec_protocol.specs.Cells.{Cell, pending_in}
use Rattle.spec_protocol.specs.Contents.{contents}
use Rattle.spec_protocol.specs.LocksAreRequested.{LocksAreRequested}
use Rattle.spec_protocol.specs.Seats.{IsAtRest, SeatState}
use Rattle.spec_protocol.specs.Server.{Server}
use Rattle.spec_protocol.specs.StandTogether.{History, LocksAskedFor, Stands}
use Rattle.law_retold.specs.Forgotten.{IsWithout}
use Rattle.law_retold.specs.Past.{IsPast, Past, behind, unclosed}
use Rattle.law_continued.specs.Continued.{transcripts_from}

-- The cells stand together with an idle seat and with the seat of the past, at the end of a history; its first
-- sessions, so many, are all that did anything in it. They are over, and what they leave is the past.
pub record Start (v : Server) (database : Text) (size : ℕ) : Type 0 where
  pub past : Past
  pub is_past : IsPast v.meaning past
  pub history : History
  pub count : ℕ
  pub seat : SeatState
  pub cells : List Cell
  pub stands : Stands v history cells (seat ∷ first_seat cells ∷ [])
  pub asked : LocksAskedFor stands
  pub wanted : LocksAreRequested v (contents cells) (seat ∷ first_seat cells ∷ [])
  -- the cells have this database and block size, and fewer entries are pending than a block takes
  pub of_database : stands.ledger.database ≡ database
  pub of_size : stands.ledger.block_size ≡ size
  pub pending : pending_in stands.ledger ≡ unclosed past.items
  pub below : pending_in stands.ledger < size
  -- nobody sits at the seat of the past, which has the transcripts of those sessions
  pub absent : seat.present ≡ false
  pub rests : IsAtRest seat.role
  pub wrote : map (λ w. w.transcript) seat.written ≡ transcripts_from (run first history) 0 count
  pub knew_none : Each (λ w. w.earlier ≡ []) seat.written
  -- each drew the id behind its number
  pub drew : (n : ℕ) → n < count → In (suc n) (flat_map assigned_id (of n history))
  pub over : IsWithout count (run first history) (behind past)
