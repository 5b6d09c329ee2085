-- The catalog's cell: where it lies, and what is left of its locks once they are released.
use Rattle.std.proofs.Common.{◌≡◌, ℕ, zero, suc, List, refl, sym, ◌∙◌}
use mathlib.Core.Option.{some}
use lib.ListN.{get_elem?}
use Rattle.spec_model.specs.Holds.{released}
use Rattle.spec_history.specs.Transactions.{End, unfixed, committed, ended}
use Rattle.spec_protocol.specs.Cells.{AreCells, CatalogCell, Cell, Catalog, Ledger, LedgerCell, Rows, catalog_at}
use Rattle.spec_protocol.specs.UndoVisits.{catalog_left}

-- it lies there alone
pub catalog_there : (cells : List Cell) (catalog c : CatalogCell) (ledger : LedgerCell) → AreCells cells catalog ledger → (i : ℕ) → get_elem? cells i ≡ some (Catalog c) → i ≡ catalog_at
catalog_there cells catalog c ledger a zero e = refl
catalog_there cells catalog c ledger a (suc zero) e = let f : some (Ledger ledger) ≡ some (Catalog c) = sym a.has_ledger ∙ e in cc
catalog_there cells catalog c ledger a (suc (suc i)) e = let t = a.has_tables i (Catalog c) e in let same : Catalog c ≡ Rows t.0 = t.1 in cc

-- what is released was locked
pub catalog_held : (e : End) (tx : ℕ) (c : CatalogCell) → (catalog_left e tx c).holds ≡ released c.holds tx
catalog_held (committed n) tx c = refl
catalog_held unfixed tx c = refl
catalog_held (ended n back) tx c = refl
