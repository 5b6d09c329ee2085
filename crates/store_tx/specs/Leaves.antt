-- The leaves that a transaction has in each table, and what a call changes of it.
use Rattle.std.specs.Prelude.{ℕ, ◌==◌, ◌++◌, if◌then◌else◌, List, [], ◌∷◌}
use Rattle.spec_protocol.specs.Moves.{with_undo_state}
use Rattle.spec_protocol.specs.Seats.{Tree, OpenTransaction}

-- those of the table's tree, and none where it has no tree
abbrev pub leaves_in : ℕ → List Tree → List (List ℕ)
leaves_in table [] = []
leaves_in table (t ∷ ts) = if t.table == table then t.leaves else leaves_in table ts

-- one leaf comes at the end of the table's tree, which comes to be where there is none
abbrev pub with_leaf : ℕ → List ℕ → List Tree → List Tree
with_leaf table leaf [] = record { table = table; leaves = leaf ∷ [] } ∷ []
with_leaf table leaf (t ∷ ts) =
    if t.table == table then record { table = table; leaves = t.leaves ++ leaf ∷ [] } ∷ ts
    else t ∷ with_leaf table leaf ts

-- a savepoint of this name keeps its counter and its trees
abbrev pub with_savepoint : List ℕ → OpenTransaction → OpenTransaction
with_savepoint name o =
    with_undo_state o.seq o.trees (record { name = name; seq = o.seq; trees = o.trees } ∷ o.open_savepoints) o
