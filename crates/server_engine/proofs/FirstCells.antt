-- The cells of a database at its beginning.
use Rattle.std.proofs.Common.{◌≡◌, ℕ, zero, suc, ◌+◌, ◌-◌, ◌≤◌, List, [], ◌∷◌, ◌++◌, refl, ap, ◌∙◌, arith}
use Rattle.spec_history.specs.Lists.{Text, Each}
use Rattle.spec_protocol.specs.Cells.{Cell, Catalog, Ledger, empty_cells, first_catalog, first_cells, first_ledger}
use Rattle.server_session.specs.KeptCell.{KeptCell, Keeps}
use Rattle.server_engine.specs.FirstCells.{all_empty, empty_kept, first_kept}
use Rattle.server_engine.specs.Standing.{cells_seen}

empty_same : (n id : ℕ) → cells_seen (all_empty n id) ≡ empty_cells n id
empty_same zero id = refl
empty_same (suc n) id = ap (λ (cs : List Cell). (empty_kept id).cell ∷ cs) (empty_same n (suc id))

-- they are those of the laws
pub first_same : (database : Text) (size : ℕ) → cells_seen (first_kept database size) ≡ first_cells database size
first_same database size = ap (λ (cs : List Cell). Catalog first_catalog ∷ Ledger (first_ledger database size) ∷ cs) (empty_same 32 3)

empty_keep : (h : List ℕ → List ℕ) (n id : ℕ) → Each (Keeps h) (all_empty n id)
empty_keep h zero id = tt
empty_keep h (suc n) id = (tt, empty_keep h n (suc id))

-- the ledger's cell keeps the hash of no block
pub first_keep : (h : List ℕ → List ℕ) (database : Text) (size : ℕ) → Each (Keeps h) (first_kept database size)
first_keep h database size = (tt, (refl, empty_keep h 32 3))

one_more : (n id k : ℕ) → id + n ≡ k → all_empty n id ++ empty_kept k ∷ [] ≡ all_empty (suc n) id
one_more zero id k e = let f : k ≡ id = omega (arith, e) in ap (λ (i : ℕ). empty_kept i ∷ []) f
one_more (suc n) id k e = ap (λ (l : List KeptCell). empty_kept id ∷ l) (one_more n (suc id) k (omega (arith, e)))

-- one table's cell more
pub next_empty : (cells : List KeptCell) (a b : KeptCell) (k : ℕ) → 3 ≤ k → cells ≡ a ∷ b ∷ all_empty (k - 3) 3 → cells ++ empty_kept k ∷ [] ≡ a ∷ b ∷ all_empty (k + 1 - 3) 3
next_empty cells a b k l e = ap (λ (cs : List KeptCell). cs ++ empty_kept k ∷ []) e
    ∙ ap (λ (cs : List KeptCell). a ∷ b ∷ cs) (one_more (k - 3) 3 k (omega (arith, l)) ∙ ap (λ (n : ℕ). all_empty n 3) (let f : suc (k - 3) ≡ k + 1 - 3 = omega (arith, l) in f))
