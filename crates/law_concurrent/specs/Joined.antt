-- Seats that were all joined into one.
use Rattle.std.specs.Prelude.{ℕ, ◌≡◌, ◌≢◌, List, []}
use mathlib.Core.Option.{some}
use lib.ListN.{get_elem?}
use Rattle.spec_history.specs.Lists.{Each, In}
use Rattle.spec_protocol.specs.Cells.{Cell, Ledger, LedgerCell, ledger_at}
use Rattle.spec_protocol.specs.Seats.{IsAtRest, SeatState, Written, nobody}
use Rattle.spec_protocol.specs.Server.{Server}
use Rattle.spec_protocol.specs.StandTogether.{StandTogether}
use Rattle.law_moments.specs.AddedInTime.{AddedInTime}

-- The cells stand together with seats of which one is left: no session runs there, and it wrote or took in
-- all these transcripts.
pub record IsJoined (v : Server) (cells : List Cell) (written : List Written) : Type 0 where
  pub seats : List SeatState
  pub together : StandTogether v cells seats
  -- all of the journal is new, with moments of these seats
  pub added : (l : LedgerCell) → get_elem? cells ledger_at ≡ some (Ledger l) → AddedInTime [] seats l
  pub j : ℕ
  pub s : SeatState
  pub there : get_elem? seats j ≡ some s
  pub rests : IsAtRest s.role
  pub wrote : s.written ≡ written
  pub others : (k : ℕ) (t : SeatState) → k ≢ j → get_elem? seats k ≡ some t → t ≡ nobody

-- when any of these sessions began, its seat knew that the first one was over
abbrev pub KnewThatOver : Written → List Written → Type 0
KnewThatOver w ws = Each (λ u. In w.transcript u.earlier) ws
