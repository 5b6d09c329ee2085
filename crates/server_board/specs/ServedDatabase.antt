-- When cells that are shared stand together with seats, and which visits a seat may make then.
use Rattle.std.specs.Prelude.{ℕ, ◌≡◌, ◌++◌, List, ◌∷◌, map}
use mathlib.Core.Option.{some}
use lib.ListN.{get_elem?}
use Rattle.spec_history.specs.Lists.{Text, Each}
use Rattle.spec_protocol.specs.Cells.{Cell, Ledger, LedgerCell, ledger_at}
use Rattle.spec_protocol.specs.AllowedVisit.{AllowedVisit}
use Rattle.spec_protocol.specs.Seats.{SeatState}
use Rattle.spec_protocol.specs.Server.{Server}
use Rattle.spec_protocol.specs.StandTogether.{History, StandTogether}
use Rattle.law_behind.specs.Past.{Past}
use Rattle.law_sequential.specs.AddedInTime.{AddedInTime}
use Rattle.law_sequential.specs.RunStart.{RunStart}

-- a database of a server, whose blocks take at most so many entries, and the journal from which it goes on
pub record ServedDatabase : Type 0 where
  pub server : Server
  pub database : Text
  pub size : ℕ
  pub past : Past

-- cells that are out, as the laws on visits see them
abbrev pub outs_seen : {C : Type 0} → (C → Cell) → List (ℕ × C) → List (ℕ × Cell)
outs_seen cell out = map (λ x. (x.0, cell x.1)) out

-- the ledger's cell is that of this database
pub record IsOf (d : ServedDatabase) (l : LedgerCell) : Type 0 where
  pub database : l.database ≡ d.database
  pub block_size : l.block_size ≡ d.size

-- Since the start, what lies in the cells came to stand together with the seat of the past and with these seats, is
-- of the database, and each cell keeps what was worked out ahead with the server's hash.
pub record StandsOn {C : Type 0} (cell : C → Cell) (keeps : (List ℕ → List ℕ) → C → Type 0) (d : ServedDatabase)
    (cells : List C) (seats : List SeatState) : Type 0 where
  pub kept : Each (keeps d.server.hash) cells
  pub start : RunStart d.server d.database d.size d.past
  pub together : StandTogether d.server (map cell cells) (start.begins.seat ∷ seats)
  pub events : History
  pub since : together.history ≡ start.begins.history ++ events
  -- all that is new in the journal has moments of these seats
  pub added : (l : LedgerCell) → get_elem? (map cell cells) ledger_at ≡ some (Ledger l)
      → AddedInTime d.past.items seats l
  pub of : (l : LedgerCell) → get_elem? (map cell cells) ledger_at ≡ some (Ledger l) → IsOf d l

-- a visit that a seat of the server may make, after which the cell keeps that too
pub record MayVisitServed {C : Type 0} (cell : C → Cell) (keeps : (List ℕ → List ℕ) → C → Type 0) (d : ServedDatabase)
    (s : SeatState) (out : List (ℕ × C)) (i : ℕ) (c : C) (t : SeatState) : Type 0 where
  pub kept : keeps d.server.hash c
  pub may : AllowedVisit d.server s (outs_seen cell out) i (cell c) t
