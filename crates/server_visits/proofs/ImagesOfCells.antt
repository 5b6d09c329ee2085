-- All cells, as an image shows them.
use Rattle.std.proofs.Common.{◌≡◌, ◌<◌, ◌≤◌, ◌∙◌, ℕ, zero, suc, refl, sym, ap, ap₂, subst, arith, false, List, [], ◌∷◌, length, map, get_or}
use Rattle.std.specs.Prelude.{◌==◌, nat_le}
use Rattle.std.proofs.lemmas.Bool.{lt-leb, ne_eqb}
use mathlib.Core.Option.{none, some}
use lib.ListN.{get_elem?}
use Rattle.sql_types.specs.declared.image.Image.{Image}
use Rattle.sql_types.specs.declared.version.Version.{Version}
use Rattle.spec_model.specs.Journals.{serial, IsLegal}
use Rattle.spec_model.specs.Script.{Reading}
use Rattle.spec_syntax.specs.Text.{statement_of}
use Rattle.server_session.specs.Ledger.{ledger_of}
use Rattle.format_image.specs.Image.{image_of}
use Rattle.format_image.specs.ImageBytes.{image_bytes}
use Rattle.store_image.specs.Room.{FitsImageFormat}
use Rattle.server_session.specs.Cells.{AreCells, Catalog, CatalogCell, Cell, Ledger, LedgerCell, cell_of, versions_at, versions_found, versions_in}
use Rattle.server_session.specs.Seats.{SeatState}
use Rattle.server_session.specs.Server.{Server}
use Rattle.server_session.specs.Serves.{Serves}
use Rattle.server_session.specs.StandTogether.{History, Stands}
use Rattle.store_image.proofs.CellsShow.{same_image, same_tables}
use Rattle.store_image.specs.Leads.{LeadsThere}
use Rattle.server_visits.specs.Images.{AreImageBytes, CellsStand, JournalFitsFormat}
use Rattle.server_session.specs.KeptCell.{KeptCell}
use Rattle.server_session.specs.VisitedCells.{table_cell}

abbrev pub cells_of : List KeptCell → List Cell
cells_of all = map (λ c. c.cell) all

-- ---- the versions of a table

-- its cell
pub same_cell : (id : ℕ) → table_cell id ≡ cell_of id
same_cell zero = refl
same_cell (suc zero) = refl
same_cell (suc (suc zero)) = refl
same_cell (suc (suc (suc n))) =
    let id = suc (suc (suc n)) in
    let greater : nat_le id 2 ≡ false = lt-leb id 2 (omega arith) in
    let not_first : (id == 1) ≡ false = ne_eqb id 1 (λ e. absurd (omega (arith, e))) in
    let not_second : (id == 2) ≡ false = ne_eqb id 2 (λ e. absurd (omega (arith, e))) in
    rw (greater, not_first, not_second) refl

pub at_place : (all : List KeptCell) (i : ℕ) (x : KeptCell) → i < length all → x ≡ get_or all i x
    → get_elem? (cells_of all) i ≡ some x.cell
at_place [] i x within is = absurd (omega (arith, within))
at_place (c ∷ cs) zero x within is = ap (λ (y : KeptCell). some y.cell) (sym is)
at_place (c ∷ cs) (suc i) x within is = at_place cs i x (omega (arith, within)) is

behind_all : (all : List KeptCell) (i : ℕ) → length all ≤ i → get_elem? (cells_of all) i ≡ none
behind_all [] i behind = refl
behind_all (c ∷ cs) zero behind = absurd (omega (arith, behind))
behind_all (c ∷ cs) (suc i) behind = behind_all cs i (omega (arith, behind))

module _ (id place : ℕ) (all : List KeptCell) (versions : List Version) (at : place ≡ table_cell id) where
  in_its_cell : versions_found id (get_elem? (cells_of all) place) ≡ versions_at (cells_of all) id
  in_its_cell = ap (λ (i : ℕ). versions_found id (get_elem? (cells_of all) i)) (at ∙ same_cell id)

  pub versions_there : (x : KeptCell) → place < length all → x ≡ get_or all place x
      → versions ≡ versions_in id x.cell → versions ≡ versions_at (cells_of all) id
  versions_there x within here is =
      is ∙ sym (ap (versions_found id) (at_place all place x within here)) ∙ in_its_cell

  pub no_versions_there : length all ≤ place → versions ≡ [] → versions ≡ versions_at (cells_of all) id
  no_versions_there behind is = is ∙ sym (ap (versions_found id) (behind_all all place behind)) ∙ in_its_cell

-- ---- the catalog and the ledger

module _ (all : List KeptCell) (catalog : CatalogCell) (ledger : LedgerCell)
    (are : AreCells (cells_of all) catalog ledger) where
  pub is_catalog : (found : CatalogCell) → get_elem? (cells_of all) 0 ≡ some (Catalog found) → found ≡ catalog
  is_catalog found there =
      let same : some (Catalog found) ≡ some (Catalog catalog) = sym there ∙ are.has_catalog in cc

  pub is_ledger : (found : LedgerCell) → get_elem? (cells_of all) 1 ≡ some (Ledger found) → found ≡ ledger
  is_ledger found there =
      let same : some (Ledger found) ≡ some (Ledger ledger) = sym there ∙ are.has_ledger in cc

-- ---- what they lead to

module _ (all : List KeptCell) (stand : CellsStand all) where
  abbrev st : Stands stand.v stand.together.history (cells_of all) stand.seats
  st = stand.together.stands

  pub leads_there : (catalog : CatalogCell) (ledger : LedgerCell) → catalog ≡ st.catalog → ledger ≡ st.ledger
      → LeadsThere stand.hash (cells_of all) catalog ledger
  leads_there catalog ledger is_catalog is_ledger = rw (is_catalog, is_ledger) (record {
    legal = subst (λ (reads : Reading). IsLegal reads st.ledger.items) stand.serves.reading
        st.ledger_is_legal.legal;
    chain = st.ledger_is_legal.chain
        ∙ ap₂ (λ (h : List ℕ → List ℕ) (reads : Reading). ledger_of h reads st.ledger.items)
        stand.serves.hash stand.serves.reading;
    tables = same_tables stand.v stand.together.history (cells_of all) stand.seats st
        ∙ ap (λ (reads : Reading). serial reads st.ledger.items) stand.serves.reading;
    sized = stand.sized;
  })

  pub journal_has_room : (ledger : LedgerCell) → get_elem? (cells_of all) 1 ≡ some (Ledger ledger)
      → FitsImageFormat stand.hash statement_of ledger.database ledger.items → JournalFitsFormat stand.hash all
  journal_has_room ledger second room c l are =
      subst (λ (x : LedgerCell). FitsImageFormat stand.hash statement_of x.database x.items)
      (is_ledger all c l are ledger second) room

-- ---- the image of their journal

-- the bytes of the image of cells that stand together are those of the image of their journal
pub bytes_are_the_journals : (h : List ℕ → List ℕ) (v : Server) → Serves h statement_of v → (history : History)
    (seats : List SeatState) (all : List KeptCell) (stands : Stands v history (cells_of all) seats) (bytes : List ℕ)
    → AreImageBytes all bytes
    → bytes ≡ image_bytes (image_of h statement_of stands.ledger.database stands.ledger.items)
bytes_are_the_journals h v serves history seats all stands bytes are =
    are stands.catalog stands.ledger stands.are_cells
    ∙ ap (λ (i : Image). image_bytes i) (same_image v history (cells_of all) seats stands)
    ∙ ap₂ (λ (g : List ℕ → List ℕ) (reads : Reading).
    image_bytes (image_of g reads stands.ledger.database stands.ledger.items))
    serves.hash serves.reading
