-- The cells with which a run starts stand together with the first seat, and no session runs there.
use Rattle.std.proofs.Common.{◌≡◌, ℕ, List, [], ◌∷◌, length, refl, sym, ap, ◌∙◌, subst}
use Rattle.std.proofs.lemmas.List.{length-map}
use mathlib.Core.Option.{some, some-ne-none}
use lib.ListN.{get_elem?}
use Rattle.spec_syntax.specs.Text.{statement_of}
use Rattle.spec_protocol.specs.AllowedVisit.{first_seat}
use Rattle.spec_protocol.specs.Cells.{Catalog, Cell, Ledger, LedgerCell, Rows, cell_count, ledger_at}
use Rattle.spec_protocol.specs.Seats.{SeatState, idle_seat}
use Rattle.spec_protocol.specs.Serves.{Serves}
use Rattle.server_ending.specs.KeptCell.{KeptCell, Keeps}
use Rattle.server_ending.specs.Standing.{cells_seen}
use Rattle.server_thread.specs.Seated.{IsIdle}
use Rattle.server_thread.specs.ServedDatabase.{ServedDatabase, StandsOn}
use Rattle.server_thread.specs.Starts.{StartsBehind}
use Rattle.server_thread.proofs.Begins as board

-- the first seat, where the ledger's cell lies at its place
first_is : (cells : List Cell) (l : LedgerCell) → get_elem? cells ledger_at ≡ some (Ledger l) → (k : LedgerCell) × (first_seat cells ≡ idle_seat k.database k.block_size 0 [])
first_is (c ∷ Ledger k ∷ cells) l e = (k, refl)
first_is (c ∷ Catalog k ∷ cells) l e = let f : some (Catalog k) ≡ some (Ledger l) = e in cc
first_is (c ∷ Rows k ∷ cells) l e = let f : some (Rows k) ≡ some (Ledger l) = e in cc
first_is (c ∷ []) l e = absurd (some-ne-none (Ledger l) (sym e))
first_is [] l e = absurd (some-ne-none (Ledger l) (sym e))

module _ (h : List ℕ → List ℕ) (d : ServedDatabase) (cells : List KeptCell) (serves : Serves h statement_of d.server) (starts : StartsBehind h d.database d.size d.past cells) where
  pub first_stand : StandsOn (λ (k : KeptCell). k.cell) Keeps d cells (first_seat (cells_seen cells) ∷ [])
  first_stand = board.first_stand (λ (k : KeptCell). k.cell) Keeps h statement_of d cells serves starts

  pub first_count : length cells ≡ cell_count
  first_count = sym (length-map cells (λ (k : KeptCell). k.cell)) ∙ first_stand.together.stands.are_cells.count

  first_idle : (k : LedgerCell) × (first_seat (cells_seen cells) ≡ idle_seat k.database k.block_size 0 [])
  first_idle = let st = first_stand.together.stands in first_is (cells_seen cells) st.ledger st.are_cells.has_ledger

  pub idle_first : IsIdle (first_seat (cells_seen cells))
  idle_first = subst IsIdle (sym first_idle.1) (record { present = refl; role = refl })

  pub none_written : (first_seat (cells_seen cells)).written ≡ []
  none_written = ap (λ (s : SeatState). s.written) first_idle.1
