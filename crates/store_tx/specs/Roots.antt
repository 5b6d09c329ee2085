-- The roots of a transaction's trees, as its entry has them.
use Rattle.std.specs.Prelude.{ℕ, List, [], ◌∷◌, map}
use Rattle.std.specs.declared.cmp.Ordering.{Ordering}
use Rattle.std.specs.Ordering.{nat_cmp}
use Rattle.base_merkle.specs.TreeHash.{tree_hash}
use Rattle.spec_model.specs.Lists.{inserted}
use Rattle.spec_protocol.specs.LedgerVisits.{with_leaves}
use Rattle.spec_protocol.specs.Seats.{Tree}

-- a table, and the root of the tree over the transaction's events in it
abbrev pub Root : Type 0
Root = ℕ × List ℕ

-- by table
abbrev pub by_root : Root → Root → Ordering
by_root r q = nat_cmp r.0 q.0

-- the root over these leaves of a table among other roots, where there is a leaf
abbrev pub with_root : (List ℕ → List ℕ) → ℕ → List (List ℕ) → List Root → List Root
with_root h table [] roots = roots
with_root h table (leaf ∷ leaves) roots = inserted by_root (table, tree_hash h (leaf ∷ leaves)) roots

-- the tree hash of each tree that has a leaf, with its table, by rising table
abbrev pub roots_of_trees : (List ℕ → List ℕ) → List Tree → List Root
roots_of_trees h trees = map (λ t. (t.table, tree_hash h t.leaves)) (with_leaves trees)
