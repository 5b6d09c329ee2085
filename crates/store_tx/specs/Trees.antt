-- Which leaves the trees and marks of a context have. They don't keep leaves, so they are related to them.
use Rattle.std.specs.Prelude.{ℕ, ◌≡◌, ◌==◌, if◌then◌else◌, List, [], ◌∷◌, map, Option, Some, None}
use Rattle.base_merkle.specs.declared.frontier.Frontier.{Frontier}
use Rattle.base_merkle.specs.declared.frontier.FrontierMark.{FrontierMark}
use Rattle.base_merkle.specs.Holds.{Holds, Marks}
use Rattle.spec_protocol.specs.Seats.{Tree}
use Rattle.store_tx.specs.Leaves.{leaves_in}
use Rattle.store_tx.specs.declared.tree.TableTree.{TableTree}

-- ---- trees

-- the first tree of the table
abbrev pub tree_of : {H : Type 0} → ℕ → List (TableTree H) → Option (Frontier H)
tree_of table [] = None
tree_of table (t ∷ ts) = if t.table == table then Some t.frontier else tree_of table ts

-- a tree that isn't there has no leaves
abbrev pub IsTree : {H : Type 0} → (H → List ℕ → List ℕ) → H → Option (Frontier H) → List (List ℕ) → Type 0
IsTree digest h None leaves = leaves ≡ []
IsTree digest h (Some f) leaves = Holds digest h f leaves

-- the tree of each table has the leaves that it has there
abbrev pub TreesHold : {H : Type 0} → (H → List ℕ → List ℕ) → H → List (TableTree H) → List Tree → Type 0
TreesHold digest h ts trees = (table : ℕ) → IsTree digest h (tree_of table ts) (leaves_in table trees)

-- their tables, in the order in which they were opened
abbrev pub tables_of : {H : Type 0} → List (TableTree H) → List ℕ
tables_of ts = map (λ t. t.table) ts

-- ---- marks, one for each of the first tables

-- the first mark of the table
abbrev pub mark_of : ℕ → List ℕ → List FrontierMark → Option FrontierMark
mark_of table [] marks = None
mark_of table (t ∷ ts) [] = None
mark_of table (t ∷ ts) (m ∷ ms) = if t == table then Some m else mark_of table ts ms

-- a table without a mark had no leaves
abbrev pub IsMark : (List ℕ → List ℕ) → Option FrontierMark → List (List ℕ) → Type 0
IsMark h None leaves = leaves ≡ []
IsMark h (Some m) leaves = Marks h m leaves

-- the mark of each table is that of the leaves that it had there
abbrev pub MarksHold : (List ℕ → List ℕ) → List ℕ → List FrontierMark → List Tree → Type 0
MarksHold h tables marks trees = (table : ℕ) → IsMark h (mark_of table tables marks) (leaves_in table trees)
