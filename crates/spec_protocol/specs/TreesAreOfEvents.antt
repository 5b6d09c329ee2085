-- Trees are those of the events.
use Rattle.std.specs.Prelude.{ℕ, ◌≡◌, ◌≢◌, ◌≤◌, List, [], ◌∷◌, map}
use Rattle.sql_types.specs.declared.event.Event.{Event}
use Rattle.spec_model.specs.Catalog.{versions_of}
use Rattle.spec_model.specs.Script.{Saved}
use Rattle.spec_history.specs.Lists.{Each}
use Rattle.spec_history.specs.Serial.{Differ}
use Rattle.spec_history.specs.Transactions.{unfixed}
use Rattle.spec_protocol.specs.Server.{Server}
use Rattle.spec_protocol.specs.Contents.{Contents, Known}
use Rattle.spec_protocol.specs.Seats.{Tree, OpenSavepoint, OpenTransaction, Session, SeatState}
use Rattle.spec_protocol.specs.OpenOnes.{HasOpen, script_end}
use Rattle.spec_protocol.specs.EventsIn.{events_in}
use Rattle.spec_protocol.specs.OpenScripts.{events_counted}
use Rattle.law_blocks.specs.Leaf.{event_bytes}

-- each tree is that of the leaves of the events in its table, and a table without a tree has no event
pub record AreTrees (events : ℕ → List Event) (trees : List Tree) : Type 0 where
  -- a table has one tree at most
  pub differ : Differ (map (λ t. t.table) trees)
  pub tables : Each (λ t. 1 ≤ t.table) trees
  pub leaves : Each (λ t. t.leaves ≡ map event_bytes (events t.table)) trees
  pub others : (id : ℕ) → 1 ≤ id → Each (λ t. t.table ≢ id) trees → events id ≡ []

-- a frame has the counter and the trees that the script had there
pub record IsOpenSavepoint (id : ℕ) (f : OpenSavepoint) (kept : Saved) : Type 0 where
  pub name : f.name ≡ kept.name
  pub counter : f.seq ≡ kept.seq
  pub trees : AreTrees (λ t. events_in id t (versions_of kept.tables t)) f.trees

abbrev pub AreOpenSavepoints : ℕ → List OpenSavepoint → List Saved → Type 0
AreOpenSavepoints id [] [] = Unit {0}
AreOpenSavepoints id (f ∷ fs) (k ∷ ks) = IsOpenSavepoint id f k × AreOpenSavepoints id fs ks
AreOpenSavepoints id _ _ = ⊥

pub record HasItsTrees (v : Server) (c : Contents) (k : Known) (x : Session)
    (o : OpenTransaction) : Type 0 where
  -- each tree of the transaction is that of the leaves of its events in its table
  pub trees : AreTrees (events_counted c x o) o.trees
  -- each frame has the counter and trees that its script had there
  pub open_savepoints : AreOpenSavepoints o.id o.open_savepoints (script_end v k.tables x o).state.saved

-- of each transaction whose end isn't fixed
abbrev pub TreesAreOfEvents : Server → Contents → Known → List SeatState → Type 0
TreesAreOfEvents v c k seats = (j : ℕ) (x : Session) (o : OpenTransaction) → HasOpen seats j x o
    → o.end ≡ unfixed
    → HasItsTrees v c k x o
