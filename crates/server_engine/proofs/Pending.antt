-- What is pending in cells of which one is changed.
use Rattle.std.proofs.Common.{◌≡◌, ◌≢◌, ◌⊎◌, ◌<◌, ◌≤◌, ◌+◌, ◌*◌, ℕ, zero, suc, List, slice_set, refl, sym, ap, subst, ◌∙◌, ⊎_elim, arith}
use Rattle.std.proofs.lemmas.Bool.{cases_eq}
use Rattle.std.proofs.lemmas.Nat.{mul-add-lt}
use mathlib.Core.Option.{some, some-injective}
use lib.ListN.{get_elem?}
use Rattle.spec_protocol.specs.Cells.{Cell, Catalog, CatalogCell, LedgerCell, AreCells, ledger_at}
use Rattle.spec_protocol.proofs.Places.{set_here, set_else}
use Rattle.server_session.specs.SessionOutput.{pending_of}
use Rattle.server_engine.specs.Standing.{pending_at, pending_found}

module _ (cells : List Cell) (i : ℕ) (c d : Cell) (here : get_elem? cells i ≡ some c) where
  at_ledger : i ≡ ledger_at → (pending_at cells ≡ pending_of c) × (pending_at (slice_set cells i d) ≡ pending_of d)
  at_ledger e = (
    ap (λ (k : ℕ). pending_found (get_elem? cells k)) (sym e) ∙ ap pending_found here,
    ap (λ (k : ℕ). pending_found (get_elem? (slice_set cells i d) k)) (sym e) ∙ ap pending_found (set_here cells i d c here),
  )

  elsewhere : i ≢ ledger_at → pending_at (slice_set cells i d) ≡ pending_at cells
  elsewhere ne = ap pending_found (set_else cells i ledger_at d (λ e. ne (sym e)))

  -- one more is pending at most
  pub one_more_at : pending_of d ≤ pending_of c + 1 → pending_at (slice_set cells i d) ≤ pending_at cells + 1
  one_more_at most = ⊎_elim
      (λ (e : i ≡ ledger_at). let p = at_ledger e in omega (arith, p.0, p.1, most))
      (λ ne. let p = elsewhere ne in omega (arith, p))
      (cases_eq i ledger_at)

  -- no more is pending
  pub none_more_at : pending_of d ≤ pending_of c → pending_at (slice_set cells i d) ≤ pending_at cells
  none_more_at most = ⊎_elim
      (λ (e : i ≡ ledger_at). let p = at_ledger e in omega (arith, p.0, p.1, most))
      (λ ne. let p = elsewhere ne in omega (arith, p))
      (cases_eq i ledger_at)

  -- fewer are pending, which only the ledger's cell has
  pub fewer_at : (catalog : CatalogCell) (ledger : LedgerCell) → AreCells cells catalog ledger → pending_of d < pending_of c → pending_at (slice_set cells i d) < pending_at cells
  fewer_at catalog ledger are less = ⊎_elim
      (λ (e : i ≡ ledger_at). let p = at_ledger e in omega (arith, p.0, p.1, less))
      (λ ne. absurd (let z = none_pending i here ne in omega (arith, z, less)))
      (cases_eq i ledger_at)
    where
      none_pending : (k : ℕ) → get_elem? cells k ≡ some c → k ≢ ledger_at → pending_of c ≡ 0
      none_pending zero e ne = ap pending_of (some-injective c (Catalog catalog) (sym e ∙ are.has_catalog))
      none_pending (suc zero) e ne = absurd (ne refl)
      none_pending (suc (suc k)) e ne = let t = are.has_tables k c e in ap pending_of t.1

-- ---- fewer visits, or as many and fewer pending

pub less_work : (n : ℕ) (m k p q : ℕ) → (m < k) ⊎ ((m ≡ k) × (p < q)) → p < n → m * n + p < k * n + q
less_work n m k p q less within = ⊎_elim
    (λ (l : m < k). let f = mul-add-lt m n p k l within in omega (arith, f))
    (λ e. subst (λ (h : ℕ). m * n + p < h * n + q) e.0 (omega (arith, e.1)))
    less
