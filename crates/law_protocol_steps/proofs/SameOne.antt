-- A seat that goes on without a change of its transaction's script, counter, trees or frames: what is said of these stays.
use Rattle.std.proofs.Common.{◌≡◌, ◌≤◌, ℕ, Bool, List, [], ◌∷◌, ◌++◌, map, refl, sym, ap, ap₂, ◌∙◌, subst}
use Rattle.sql_types.specs.declared.event.Event.{Event}
use Rattle.sql_types.specs.declared.version.Version.{Version}
use Rattle.spec_model.specs.Catalog.{Tables, versions_of}
use Rattle.spec_model.specs.Journals.{Line, serial}
use Rattle.spec_model.specs.Replies.{reply_text}
use Rattle.spec_model.specs.Script.{ScriptEnd, script}
use Rattle.spec_history.specs.Lists.{Each, In}
use Rattle.spec_protocol.specs.Server.{Server}
use Rattle.spec_protocol.specs.Cells.{LedgerCell, Cell, versions_at}
use Rattle.spec_protocol.specs.Seats.{Tree, OpenSavepoint, OpenTransaction, Session}
use Rattle.spec_protocol.specs.OpenOnes.{text_at, lines_at, script_so_far, texts_so_far, script_end}
use Rattle.spec_protocol.specs.OpenScripts.{counted}
use Rattle.spec_protocol.specs.EventsIn.{events_in}
use Rattle.spec_protocol.specs.TreesAreOfEvents.{AreTrees, AreOpenSavepoints}
use Rattle.law_protocol_steps.proofs.OfCells.{HasItsTrees, IsOfItsScript, events_counted}
use Rattle.spec_model.specs.Touched.{touched}
use Rattle.spec_protocol.specs.Leaf.{event_bytes}

pub record IsSame (x : Session) (o : OpenTransaction) (y : Session) (p : OpenTransaction) : Type 0 where
  pub id : p.id ≡ o.id
  pub explicit : p.explicit ≡ o.explicit
  pub script : p.script ≡ o.script
  pub seq : p.seq ≡ o.seq
  pub trees : p.trees ≡ o.trees
  pub open_savepoints : p.open_savepoints ≡ o.open_savepoints
  pub end : p.end ≡ o.end
  pub lines : lines_at y.place ≡ lines_at x.place
  pub text : text_at y.place ≡ text_at x.place
  pub counts : (tx id : ℕ) (vs : List Version) → counted tx id y.place vs ≡ counted tx id x.place vs
  pub visited : (i : ℕ) → In i o.visited → In i p.visited
  pub released : p.released ≡ o.released

module _ (x : Session) (o : OpenTransaction) (y : Session) (p : OpenTransaction) (m : IsSame x o y p) where
  pub same_script : script_so_far y p ≡ script_so_far x o
  same_script = ap₂ (λ (a : List Line) (b : List Line). a ++ b) m.script m.lines

  pub same_end : (v : Server) (T : Tables) → script_end v T y p ≡ script_end v T x o
  same_end v T = ap (λ (b : Bool). script v.reads b T p.id (texts_so_far y p)) m.explicit
      ∙ ap₂ (λ (n : ℕ) (l : List Line). script v.reads o.explicit T n (map (λ z. z.0) l)) m.id same_script

  same_touched : (cells others : List Cell) → ((id : ℕ) → versions_at others id ≡ versions_at cells id) → (id : ℕ) → touched p.id (counted p.id id y.place (versions_at others id)) ≡ touched o.id (counted o.id id x.place (versions_at cells id))
  same_touched cells others same id = ap₂ (λ (n : ℕ) (vs : List Version). touched n vs) m.id
      (ap (λ (n : ℕ). counted n id y.place (versions_at others id)) m.id ∙ m.counts o.id id (versions_at others id) ∙ ap (counted o.id id x.place) (same id))

  pub same_events : (cells others : List Cell) → ((id : ℕ) → versions_at others id ≡ versions_at cells id) → (id : ℕ) → events_counted others y p id ≡ events_counted cells x o id
  same_events cells others same id = ap₂ (λ (n : ℕ) (vs : List Version). events_in n id vs) m.id
      (ap (λ (n : ℕ). counted n id y.place (versions_at others id)) m.id ∙ m.counts o.id id (versions_at others id) ∙ ap (counted o.id id x.place) (same id))

  module _ (v : Server) (cells others : List Cell) (T : Tables) (same : (id : ℕ) → versions_at others id ≡ versions_at cells id) where
    pub script_stays : IsOfItsScript v cells T x o → IsOfItsScript v others T y p
    script_stays h = record {
      replies = ap (map (λ (l : Line). l.1)) same_script ∙ h.replies ∙ ap (λ (e : ScriptEnd). map reply_text e.replies) (sym (same_end v T));
      versions = λ id l. same_touched cells others same id ∙ h.versions id l ∙ ap₂ (λ (n : ℕ) (e : ScriptEnd). touched n (versions_of e.state.tables id)) (sym m.id) (sym (same_end v T));
      counter = m.seq ∙ h.counter ∙ ap (λ (e : ScriptEnd). e.state.seq) (sym (same_end v T));
      alone = λ e. m.script ∙ h.alone (sym m.explicit ∙ e);
    }

  pub trees_same : (v : Server) (E F : ℕ → List Event) (trees : List Tree) → ((id : ℕ) → F id ≡ E id) → AreTrees E trees → AreTrees F trees
  trees_same v E F trees e h = record { differ = h.differ; tables = h.tables; leaves = each trees h.leaves; others = λ id l none. e id ∙ h.others id l none }
    where
      each : (ts : List Tree) → Each (λ t. t.leaves ≡ map event_bytes (E t.table)) ts → Each (λ t. t.leaves ≡ map event_bytes (F t.table)) ts
      each [] k = tt
      each (t ∷ ts) k = (k.0 ∙ ap (map event_bytes) (sym (e t.table)), each ts k.1)

  -- a tree is of a table
  pub trees_from : (v : Server) (E F : ℕ → List Event) (trees : List Tree) → ((id : ℕ) → 1 ≤ id → F id ≡ E id) → AreTrees E trees → AreTrees F trees
  trees_from v E F trees e h = record { differ = h.differ; tables = h.tables; leaves = each trees h.tables h.leaves; others = λ id l none. e id l ∙ h.others id l none }
    where
      each : (ts : List Tree) → Each (λ t. 1 ≤ t.table) ts → Each (λ t. t.leaves ≡ map event_bytes (E t.table)) ts → Each (λ t. t.leaves ≡ map event_bytes (F t.table)) ts
      each [] one k = tt
      each (t ∷ ts) one k = (k.0 ∙ ap (map event_bytes) (sym (e t.table one.0)), each ts one.1 k.1)

  module _ (v : Server) (cells others : List Cell) (ledger : LedgerCell) (same : (id : ℕ) → versions_at others id ≡ versions_at cells id) where
    pub trees_stay : HasItsTrees v cells ledger x o → HasItsTrees v others ledger y p
    trees_stay h = record {
      trees = subst (AreTrees (events_counted others y p)) (sym m.trees) (trees_same v (events_counted cells x o) (events_counted others y p) o.trees (same_events cells others same) h.trees);
      open_savepoints = subst (λ (n : ℕ). AreOpenSavepoints n p.open_savepoints (script_end v (serial v.reads ledger.items) y p).state.saved) (sym m.id)
          (subst (λ (fs : List OpenSavepoint). AreOpenSavepoints o.id fs (script_end v (serial v.reads ledger.items) y p).state.saved) (sym m.open_savepoints)
          (subst (λ (e : ScriptEnd). AreOpenSavepoints o.id o.open_savepoints e.state.saved) (sym (same_end v (serial v.reads ledger.items))) h.open_savepoints));
    }

-- nothing changed
pub no_change : (x : Session) (o : OpenTransaction) → IsSame x o x o
no_change x o = record { id = refl; explicit = refl; script = refl; seq = refl; trees = refl; open_savepoints = refl; end = refl; lines = refl; text = refl; counts = λ tx id vs. refl; visited = λ i h. h; released = refl }
