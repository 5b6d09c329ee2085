-- A cell that is out lies where it was when it was taken.
use Rattle.std.proofs.Common.{◌≡◌, ℕ, List, [], ◌∷◌, subst, ⊎_elim}
use mathlib.Core.Option.{some}
use lib.ListN.{get_elem?}
use Rattle.spec_history.specs.Lists.{In}
use Rattle.spec_protocol.specs.Cells.{Cell}
use Rattle.spec_protocol.specs.AllowedVisit.{OutsAreIn}

pub out_lies : (cells : List Cell) (out : List (ℕ × Cell)) → OutsAreIn cells out → (n : ℕ) (b : Cell) → In (n, b) out → get_elem? cells n ≡ some b
out_lies cells [] outs n b i = absurd i
out_lies cells (x ∷ xs) outs n b i = ⊎_elim (λ (e : x ≡ (n, b)). subst (λ (y : ℕ × Cell). get_elem? cells y.0 ≡ some y.1) e outs.0) (λ k. out_lies cells xs outs.1 n b k) i
