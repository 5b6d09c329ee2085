-- The cells with which a run starts.
use Rattle.std.specs.Prelude.{ℕ, ◌≡◌, List, map}
use mathlib.Core.Option as maybe
use mathlib.Core.Option.{some}
use lib.ListN.{get_elem?}
use Rattle.spec_model.specs.Script.{Reading}
use Rattle.spec_history.specs.Lists.{Text, Each}
use Rattle.spec_protocol.specs.Cells.{Cell, Ledger, ledger_at}
use Rattle.spec_protocol.specs.Server.{Server}
use Rattle.spec_protocol.specs.Serves.{Serves}
use Rattle.law_behind.specs.Past.{Past, no_past}
use Rattle.law_sequential.specs.RunStart.{RunStart}

-- Each server that reads and hashes so starts behind this past with these cells, and each of them keeps what was
-- worked out ahead with this hash.
pub record StartsWith {C : Type 0} (cell : C → Cell) (keeps : (List ℕ → List ℕ) → C → Type 0) (h : List ℕ → List ℕ)
    (reads : Reading) (database : Text) (size : ℕ) (past : Past) (cells : List C) : Type 0 where
  pub keep : Each (keeps h) cells
  pub starts : (v : Server) → Serves h reads v
      → (s : RunStart v database size past) × (s.begins.cells ≡ map cell cells)

-- ---- the past that cells have

-- the journal in the ledger's cell, and the id that it assigns next
abbrev pub past_found : maybe.Option Cell → Past
past_found (some (Ledger l)) = record { items = l.items; next = l.next }
past_found _ = no_past

abbrev pub past_in : List Cell → Past
past_in cells = past_found (get_elem? cells ledger_at)
