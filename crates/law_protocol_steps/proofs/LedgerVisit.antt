-- A visit of the ledger's cell that leaves what the journal says: what it owes, and that cells and seats stand together then.
use Rattle.std.proofs.Common.{◌≡◌, ℕ, zero, suc, List, slice_set, refl, sym, ◌∙◌, subst₂, map, ◌++◌}
use mathlib.Core.Option.{some, some-injective}
use lib.ListN.{get_elem?}
use Rattle.spec_history.specs.Acts.{Act, SessionAct, by}
use Rattle.spec_protocol.specs.Server.{Server}
use Rattle.spec_protocol.specs.Cells.{CatalogCell, LedgerCell, Cell, Catalog, Ledger, Rows, AreCells, ledger_at}
use Rattle.spec_protocol.specs.Contents.{Contents, Known, contents, known}
use Rattle.spec_protocol.specs.Seats.{SeatState}
use Rattle.spec_protocol.specs.LedgerIsLegal.{LedgerIsLegal}
use Rattle.spec_protocol.specs.TablesAreSerial.{TablesAreSerial}
use Rattle.spec_protocol.specs.OpenScripts.{OpenScripts}
use Rattle.spec_protocol.specs.LocksCover.{LocksCover}
use Rattle.spec_protocol.specs.LocksAgree.{LocksAgree}
use Rattle.spec_protocol.specs.TreesAreOfEvents.{TreesAreOfEvents}
use Rattle.spec_protocol.specs.TranscriptsAgree.{TranscriptsAgree}
use Rattle.spec_protocol.specs.StandTogether.{History, Stands, StandsAfter}
use Rattle.law_protocol_steps.proofs.GoesOn.{each_so}
use Rattle.law_protocol_steps.proofs.LedgerKept.{same_contents, are_cells}
use Rattle.law_protocol_steps.proofs.Turns.{Turns, tables_turn, scripts_turn, trees_turn, agree_turn, cover_turn, rows_turn}
use Rattle.spec_protocol.specs.RowsAgree.{RowsAgree}
use Rattle.spec_history.proofs.Legal.{legal}

same_cell : (c d : LedgerCell) → Ledger c ≡ Ledger d → c ≡ d
same_cell c d e = cc

-- the ledger's cell is the one that lies there
pub the_ledger : (cells : List Cell) (catalog : CatalogCell) (ledger c : LedgerCell) → AreCells cells catalog ledger → get_elem? cells ledger_at ≡ some (Ledger c) → c ≡ ledger
the_ledger cells catalog ledger c a e = same_cell c ledger (some-injective (Ledger c) (Ledger ledger) (sym e ∙ a.has_ledger))

-- and it lies there alone
pub lies_there : (cells : List Cell) (catalog : CatalogCell) (ledger c : LedgerCell) → AreCells cells catalog ledger → (i : ℕ) → get_elem? cells i ≡ some (Ledger c) → i ≡ ledger_at
lies_there cells catalog ledger c a zero e = let same : Catalog catalog ≡ Ledger c = some-injective (Catalog catalog) (Ledger c) (sym a.has_catalog ∙ e) in cc
lies_there cells catalog ledger c a (suc zero) e = refl
lies_there cells catalog ledger c a (suc (suc i)) e = let t = a.has_tables i (Ledger c) e in let same : Ledger c ≡ Rows t.0 = t.1 in cc

module _ (v : Server) (cells : List Cell) (seats : List SeatState) {history : History} (st : Stands v history cells seats) (j : ℕ) (s t : SeatState) (there : get_elem? seats j ≡ some s) (d : LedgerCell)
    (says : known v.reads d.items ≡ known v.reads st.ledger.items) where
  abbrev before : Contents
  before = contents cells

  abbrev said : Known
  said = known v.reads st.ledger.items

  abbrev after : List SeatState
  after = slice_set seats j t

  over : (P : Contents → Known → Type 0) → P before said → P (contents (slice_set cells ledger_at (Ledger d))) (known v.reads d.items)
  over P p = subst₂ P (sym (same_contents cells st.ledger d st.are_cells.has_ledger)) (sym says) p

  pub ledger_visit : (h : List Act) → LedgerIsLegal v d → Turns v before said st.catalog.defs s t → TranscriptsAgree v h d after → Stands v h (slice_set cells ledger_at (Ledger d)) after
  ledger_visit h legal turn agree = record {
    catalog = st.catalog;
    ledger = d;
    are_cells = are_cells cells st.ledger d st.are_cells.has_ledger st.catalog st.ledger st.are_cells;
    ledger_is_legal = legal;
    tables_are_serial = over (λ c k. TablesAreSerial v c k st.catalog.defs st.catalog.creator after) (tables_turn v before said st.catalog.defs seats j s t there turn st.catalog.creator st.tables_are_serial);
    rows_agree = over (λ c k. RowsAgree v c k after) (rows_turn v before said st.catalog.defs seats j s t there turn st.rows_agree);
    open_scripts = over (λ c k. OpenScripts v c k after) (scripts_turn v before said st.catalog.defs seats j s t there turn st.open_scripts);
    locks_cover = over (λ c k. LocksCover v c k after) (cover_turn v before said st.catalog.defs seats j s t there turn st.locks_cover);
    locks_agree = over (λ c k. LocksAgree c after) (agree_turn v before said st.catalog.defs seats j s t there turn st.locks_agree);
    trees_are_of_events = over (λ c k. TreesAreOfEvents v c k after) (trees_turn v before said st.catalog.defs seats j s t there turn st.trees_are_of_events);
    transcripts_agree = agree;
  }

  -- with acts of one session
  pub ledger_after : (n : ℕ) {acts : List SessionAct} → LedgerIsLegal v d → Turns v before said st.catalog.defs s t → (agree : TranscriptsAgree v (history ++ map (by n) acts) d after) → agree.owner n ≡ j → StandsAfter v j history acts (slice_set cells ledger_at (Ledger d)) after
  unfolding ledger_visit
  ledger_after n {acts} legal turn agree own = record { session = n; stands = ledger_visit (history ++ map (by n) acts) legal turn agree; mine = each_so acts own }
