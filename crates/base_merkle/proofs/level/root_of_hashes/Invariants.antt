use Rattle.std.proofs.Common.{◌≡◌, ◌∷◌, ℕ, List, length, map}
use Rattle.base_merkle.proofs.Levels.{IsLevel}
use Rattle.base_merkle.proofs.level.root_of_hashes.Given as goal

abbrev pub invariant-levels : goal.invariant-levels
invariant-levels g l = (leaves : List (List ℕ)) → l.fn.hashes.items ≡ map (λ leaf. g.H.Hash32.digest l.hasher (0 ∷ leaf)) leaves
    → (height : ℕ) × IsLevel (g.H.Hash32.digest l.hasher) height l.nodes.items leaves

abbrev pub decreases-levels : goal.decreases-levels
decreases-levels g l = length l.nodes.items
