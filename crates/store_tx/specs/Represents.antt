-- Which transaction a context is of.
use Rattle.std.specs.Prelude.{ℕ, ◌≡◌, ◌≤◌, ◌<◌, ◌+◌, ◌^◌, ◌++◌, List, [], ◌∷◌, length, Some}
use Rattle.base_merkle.specs.declared.frontier.Frontier.{Frontier}
use Rattle.spec_protocol.specs.Serial.{Differ}
use Rattle.spec_model.specs.Limits.{max_savepoints}
use Rattle.spec_protocol.specs.Seats.{OpenSavepoint, OpenTransaction}
use Rattle.store_tx.specs.Leaves.{leaves_in}
use Rattle.store_tx.specs.Trees.{tree_of, tables_of, TreesHold, MarksHold}
use Rattle.store_tx.specs.declared.context.TxCtx.{TxCtx}
use Rattle.store_tx.specs.declared.savepoint.Savepoint.{Savepoint}

-- a savepoint is of this frame; its marks stand by the tables whose trees were open
pub record RepresentsSavepoint (h : List ℕ → List ℕ) (tables : List ℕ) (s : Savepoint) (f : OpenSavepoint) : Type 0 where
  pub name : s.name ≡ f.name
  pub seq : s.seq ≡ f.seq
  pub few : (table : ℕ) → length (leaves_in table f.trees) ≤ f.seq
  pub placed : length s.marks.items ≤ length tables
  pub marks : MarksHold h tables s.marks.items f.trees

-- the savepoints are of these frames, of which the newest comes first
abbrev pub RepresentSavepoints : (List ℕ → List ℕ) → List ℕ → List Savepoint → List OpenSavepoint → Type 0
RepresentSavepoints h tables saved [] = saved ≡ []
RepresentSavepoints h tables saved (f ∷ fs) =
    (older : List Savepoint) × (newest : Savepoint) × (saved ≡ older ++ newest ∷ [])
    × RepresentsSavepoint h tables newest f × RepresentSavepoints h tables older fs

-- the context is of this transaction, and hashes by h; of its script and its locks it has nothing
pub record Represents {H : Type 0} (digest : H → List ℕ → List ℕ) (h : H) (c : TxCtx H)
    (o : OpenTransaction) : Type 0 where
  pub hasher : c.hasher ≡ h
  pub id : c.id ≡ o.id
  pub explicit : c.explicit ≡ o.explicit
  pub seq : c.seq ≡ o.seq
  -- no table has more leaves than there were events
  pub few : (table : ℕ) → length (leaves_in table o.trees) ≤ o.seq
  pub trees : TreesHold digest h c.trees.items o.trees
  -- a table has one tree at most
  pub differ : Differ (tables_of c.trees.items)
  pub open_savepoints : RepresentSavepoints (digest h) (tables_of c.trees.items) c.savepoints.items o.open_savepoints
  pub kept : length o.open_savepoints ≤ max_savepoints

-- the tree of the table is open
abbrev pub IsOpen : {H : Type 0} → ℕ → TxCtx H → Type 0
IsOpen {H} table c = (f : Frontier H) × (tree_of table c.trees.items ≡ Some f)

-- one more event of the table may be noted
pub record MayNote {H : Type 0} (digest : H → List ℕ → List ℕ) (table : ℕ) (c : TxCtx H) : Type 0 where
  pub h : H
  pub o : OpenTransaction
  pub is : Represents digest h c o
  pub open_tree : IsOpen table c
  pub room : o.seq + 1 < 2 ^ 63
