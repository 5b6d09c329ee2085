-- Cells with which a run starts stand together with the first seat.
use Rattle.std.proofs.Common.{◌≡◌, ℕ, List, [], ◌∷◌, ◌++◌, map, refl, sym, subst, append-nil}
use mathlib.Core.Option.{some}
use lib.ListN.{get_elem?}
use Rattle.spec_model.specs.Script.{Reading}
use Rattle.spec_history.specs.Lists.{Each}
use Rattle.spec_protocol.specs.AllowedVisit.{first_seat}
use Rattle.spec_protocol.specs.Cells.{Cell, Ledger, LedgerCell, ledger_at}
use Rattle.spec_protocol.specs.Serves.{Serves}
use Rattle.spec_protocol.specs.StandTogether.{StandTogether}
use Rattle.law_sequential.specs.AddedInTime.{AddedInTime}
use Rattle.law_sequential.specs.RunStart.{RunStart}
use Rattle.law_sequential.proofs.AtStart.{none_added}
use Rattle.server_board.specs.Laws.{one_ledger}
use Rattle.server_board.specs.ServedDatabase.{ServedDatabase, IsOf, StandsOn}
use Rattle.server_board.specs.StartsWith.{StartsWith}

module _ (d : ServedDatabase) (start : RunStart d.server d.database d.size d.past) where
  -- so they stand together, since nothing has happened
  abbrev Together : List Cell → Type 0
  Together cells = (st : StandTogether d.server cells (start.begins.seat ∷ first_seat cells ∷ [])) × (st.history ≡ start.begins.history ++ [])

  together : Together start.begins.cells
  together = let b = start.begins in
      (record { history = b.history; stands = b.stands; locks_were_asked = b.asked; locks_are_requested = b.wanted }, sym (append-nil b.history))

  the_ledger : (P : LedgerCell → Type 0) → P start.begins.stands.ledger → (l : LedgerCell) → get_elem? start.begins.cells ledger_at ≡ some (Ledger l) → P l
  the_ledger P p l lies = subst P (one_ledger start.begins.cells start.begins.stands.ledger l start.begins.stands.are_cells.has_ledger lies) p

  added : (l : LedgerCell) → get_elem? start.begins.cells ledger_at ≡ some (Ledger l) → AddedInTime d.past.items (first_seat start.begins.cells ∷ []) l
  added = the_ledger (AddedInTime d.past.items (first_seat start.begins.cells ∷ [])) (none_added start)

  of : (l : LedgerCell) → get_elem? start.begins.cells ledger_at ≡ some (Ledger l) → IsOf d l
  of = the_ledger (IsOf d) (record { database = start.begins.of_database; block_size = start.begins.of_size })

  module _ {C : Type 0} (cell : C → Cell) (keeps : (List ℕ → List ℕ) → C → Type 0) (cells : List C) where
    pub stand_at_start : start.begins.cells ≡ map cell cells → Each (keeps d.server.hash) cells → StandsOn cell keeps d cells (first_seat (map cell cells) ∷ [])
    stand_at_start same keep = let now = subst Together same together in record {
      kept = keep;
      start = start;
      together = now.0;
      events = [];
      since = now.1;
      added = subst (λ (cs : List Cell). (l : LedgerCell) → get_elem? cs ledger_at ≡ some (Ledger l) → AddedInTime d.past.items (first_seat cs ∷ []) l) same added;
      of = subst (λ (cs : List Cell). (l : LedgerCell) → get_elem? cs ledger_at ≡ some (Ledger l) → IsOf d l) same of;
    }

pub first_stand : {C : Type 0} (cell : C → Cell) (keeps : (List ℕ → List ℕ) → C → Type 0) (h : List ℕ → List ℕ) (reads : Reading) (d : ServedDatabase) (cells : List C)
    → Serves h reads d.server → StartsWith cell keeps h reads d.database d.size d.past cells → StandsOn cell keeps d cells (first_seat (map cell cells) ∷ [])
first_stand {C} cell keeps h reads d cells serves begins = let s = begins.starts d.server serves in
    stand_at_start d s.0 cell keeps cells s.1 (subst (λ (g : List ℕ → List ℕ). Each (keeps g) cells) (sym serves.hash) begins.keep)
