-- Cells after one of them changed.
use Rattle.std.proofs.Common.{◌≡◌, ◌≢◌, ◌⊎◌, ℕ, suc, List, set, sym, ap, ◌∙◌, subst, ⊎_elim, arith}
use Rattle.std.proofs.lemmas.Bool.{cases_eq}
use mathlib.Core.Option.{some}
use lib.ListN.{get_elem?}
use Rattle.sql_types.specs.declared.lock.Hold.{Hold}
use Rattle.spec_protocol.specs.Cells.{CatalogCell, LedgerCell, TableCell, Cell, Catalog, Rows, holds_in, holds_found, holds_at, versions_in, versions_found, versions_at, catalog_at, ledger_at, cell_of, AreCells}
use Rattle.law_protocol_steps.proofs.AfterSet.{set_here, set_else}
use Rattle.std.proofs.lemmas.List.{length-set}

module _ (cells : List Cell) (i : ℕ) (old new : Cell) (out : get_elem? cells i ≡ some old) where
  pub holds_here : holds_at (set cells i new) i ≡ holds_in new
  holds_here = ap holds_found (set_here cells i old new out)

  pub held_here : holds_at cells i ≡ holds_in old
  held_here = ap holds_found out

  pub holds_else : (k : ℕ) → k ≢ i → holds_at (set cells i new) k ≡ holds_at cells k
  holds_else k n = ap holds_found (set_else cells i k new n)

  -- what holds of the locks of the cell, and stayed of those of the others, holds of the locks of each
  pub each_holds : (P : ℕ → List Hold → Type 0) → P i (holds_in new) → ((k : ℕ) → P k (holds_at cells k)) → (k : ℕ) → P k (holds_at (set cells i new) k)
  each_holds P here all k = ⊎_elim
      (λ (e : k ≡ i). subst (λ (n : ℕ). P n (holds_at (set cells i new) n)) (sym e) (subst (P i) (sym holds_here) here))
      (λ (n : k ≢ i). subst (P k) (sym (holds_else k n)) (all k))
      (cases_eq k i)

  pub versions_here : (id : ℕ) → cell_of id ≡ i → versions_at (set cells i new) id ≡ versions_in id new
  versions_here id e = ap (λ (n : ℕ). versions_found id (get_elem? (set cells i new) n)) e ∙ ap (versions_found id) (set_here cells i old new out)

  pub were_here : (id : ℕ) → cell_of id ≡ i → versions_at cells id ≡ versions_in id old
  were_here id e = ap (λ (n : ℕ). versions_found id (get_elem? cells n)) e ∙ ap (versions_found id) out

  pub versions_else : (id : ℕ) → cell_of id ≢ i → versions_at (set cells i new) id ≡ versions_at cells id
  versions_else id n = ap (versions_found id) (set_else cells i (cell_of id) new n)

  -- a cell with the same versions leaves those of all tables
  pub versions_kept : ((id : ℕ) → versions_in id new ≡ versions_in id old) → (id : ℕ) → versions_at (set cells i new) id ≡ versions_at cells id
  versions_kept same id = ⊎_elim
      (λ (e : cell_of id ≡ i). versions_here id e ∙ same id ∙ sym (were_here id e))
      (λ (n : cell_of id ≢ i). versions_else id n)
      (cases_eq (cell_of id) i)

-- the catalog's cell changed
pub catalog_changed : (cells : List Cell) (c : CatalogCell) (ledger : LedgerCell) (d : CatalogCell) → AreCells cells c ledger → AreCells (set cells catalog_at (Catalog d)) d ledger
catalog_changed cells c ledger d h = record {
  count = length-set cells catalog_at (Catalog d) ∙ h.count;
  has_catalog = set_here cells catalog_at (Catalog c) (Catalog d) h.has_catalog;
  has_ledger = set_else cells catalog_at ledger_at (Catalog d) (λ e. omega arith) ∙ h.has_ledger;
  has_tables = λ k e f. h.has_tables k e (sym (set_else cells catalog_at (suc (suc k)) (Catalog d) (λ z. omega arith)) ∙ f);
}

-- a table's cell changed
module _ (cells : List Cell) (catalog : CatalogCell) (ledger : LedgerCell) (k : ℕ) (old new : TableCell) (out : get_elem? cells (suc (suc k)) ≡ some (Rows old)) (same : new.id ≡ old.id) where
  is_one : (i : ℕ) (e : Cell) → AreCells cells catalog ledger → get_elem? (set cells (suc (suc k)) (Rows new)) (suc (suc i)) ≡ some e → (i ≡ k) ⊎ (i ≢ k) → (t : TableCell) × (e ≡ Rows t) × (t.id ≡ suc (suc (suc i)))
  is_one i e h f c = ⊎_elim
      (λ (z : i ≡ k).
      let here : some (Rows new) ≡ some e = sym (set_here cells (suc (suc k)) (Rows old) (Rows new) out) ∙ ap (λ (n : ℕ). get_elem? (set cells (suc (suc k)) (Rows new)) (suc (suc n))) (sym z) ∙ f in
      let was = h.has_tables k (Rows old) out in
      let is : Rows old ≡ Rows was.0 = was.1 in
      let alike : old ≡ was.0 = cc in
      (new, cc, same ∙ ap (λ (t : TableCell). t.id) alike ∙ was.2 ∙ ap (λ (n : ℕ). suc (suc (suc n))) (sym z)))
      (λ (n : i ≢ k). h.has_tables i e (sym (set_else cells (suc (suc k)) (suc (suc i)) (Rows new) (λ z. n (omega arith))) ∙ f))
      c

  pub table_changed : AreCells cells catalog ledger → AreCells (set cells (suc (suc k)) (Rows new)) catalog ledger
  table_changed h = record {
    count = length-set cells (suc (suc k)) (Rows new) ∙ h.count;
    has_catalog = set_else cells (suc (suc k)) catalog_at (Rows new) (λ e. omega arith) ∙ h.has_catalog;
    has_ledger = set_else cells (suc (suc k)) ledger_at (Rows new) (λ e. omega arith) ∙ h.has_ledger;
    has_tables = λ i e f. is_one i e h f (cases_eq i k);
  }
