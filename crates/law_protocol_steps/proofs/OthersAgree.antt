-- What a transaction leaves is, of all that another one wants, what was there before: its tables over those of the journal.
use Rattle.std.proofs.Common.{◌≡◌, ◌≢◌, ℕ, Bool, true, false, List, [], ◌∷◌, Option, Some, None, refl, sym, subst}
use Rattle.std.specs.List.{AllByRecursion}
use Rattle.sql_types.specs.declared.lock.Mode.{Mode}
use Rattle.sql_types.specs.declared.lock.Mode.TheVariants.{IS, IX, S, X}
use Rattle.sql_types.specs.declared.lock.Item.{Item}
use Rattle.sql_types.specs.declared.lock.LockRequest.{LockRequest}
use Rattle.sql_types.specs.declared.statement.Stmt.{Stmt}
use Rattle.sql_types.specs.declared.version.Version.{Version}
use Rattle.sql_value.specs.declared.column.ColumnDef.{ColumnDef}
use Rattle.spec_model.specs.Catalog.{Tables, defs_of, versions_of}
use Rattle.spec_model.specs.Locks.{CellRequests}
use Rattle.spec_model.specs.Agreement.{AgreeIn, AgreeOnAll, AgreeInCell, AgreeInCatalog, LockRequests, requests_of, AgreeFor, columns_at}
use Rattle.spec_model.specs.NoClash.{text_clash}
use Rattle.spec_model.specs.Runs.{Sound}
use Rattle.spec_model.specs.Script.{script}
use Rattle.spec_model.specs.ScriptRequests.{text_requests, script_requests}
use Rattle.law_frame.proofs.Beside.{beside}
use Rattle.law_frame.proofs.BesideOne.{beside_one}
use Rattle.law_frame.proofs.Definitions.{nothing_done}
use Rattle.law_frame.proofs.SameEnds.{IsShort}
use Rattle.spec_history.specs.Lists.{Text, Each}
use Rattle.spec_protocol.specs.Server.{Server}
use Rattle.spec_protocol.specs.Contents.{Contents}
use Rattle.spec_protocol.specs.Seats.{OpenTransaction, Session, SeatState}
use Rattle.spec_protocol.specs.OpenOnes.{HasOpen}
use Rattle.spec_protocol.specs.RequestsIn.{requests_in, requests_at, Holds}
use Rattle.spec_protocol.specs.LocksAgree.{LocksAgree}
use Rattle.law_protocol_steps.proofs.NoClashes.{no_clash}

-- ---- tables agree with themselves

module _ (T : Tables) where
  in_itself : (columns : List ColumnDef) (m : Mode) (x : Item) (V : List Version) → AgreeIn columns m x V V
  in_itself columns IS x V = tt
  in_itself columns IX x V = tt
  in_itself columns S x V = refl
  in_itself columns X x V = refl

  on_itself : (columns : List ColumnDef) (ws : List LockRequest) (V : List Version) → AgreeOnAll columns ws V V
  on_itself columns [] V = tt
  on_itself columns (w ∷ ws) V = (in_itself columns w.mode w.item V, on_itself columns ws V)

  cell_itself : (c : CellRequests) → AgreeInCell c T T
  cell_itself None = tt
  cell_itself (Some c) = on_itself (columns_at (defs_of T) c.0) c.1 (versions_of T c.0)

  catalog_itself : (m : Option Mode) → AgreeInCatalog m T T
  catalog_itself None = tt
  catalog_itself (Some IS) = tt
  catalog_itself (Some IX) = tt
  catalog_itself (Some S) = record { definitions = refl; tables = refl; columns = refl }
  catalog_itself (Some X) = record { definitions = refl; tables = refl; columns = refl }

  pub agree_itself : (w : LockRequests) → AgreeFor T T w
  agree_itself w = record { catalog = catalog_itself w.catalog; cell = cell_itself w.cell }

-- ---- the wants of texts are locked

-- each want of these texts has its lock, in each cell
abbrev pub AllLocked : Server → Contents → Tables → Bool → ℕ → List Text → Type 0
AllLocked v c T explicit id texts = (n : ℕ) → Each (λ t. Each (Holds (c.holds n) id) (requests_in v (defs_of T) explicit n t)) texts

module _ (v : Server) (c : Contents) (T : Tables) (seats : List SeatState) (agree : LocksAgree c seats) (i j : ℕ) (y x : Session) (p o : OpenTransaction) (ne : i ≢ j) (has_p : HasOpen seats i y p) (has_o : HasOpen seats j x o) where
  one_text : (a : Stmt) (b : Option Stmt) → ((n : ℕ) → Each (Holds (c.holds n) p.id) (requests_at n (requests_of (defs_of T) p.explicit a))) → ((n : ℕ) → Each (Holds (c.holds n) o.id) (requests_at n (text_requests (defs_of T) o.explicit b)))
      → text_clash (defs_of T) p.explicit a o.explicit b ≡ false
  one_text a None g h = refl
  one_text a (Some b) g h = no_clash c seats agree i j y x p o ne has_p has_o (defs_of T) a b g h

  all_texts : (a : Stmt) (texts : List Text) → ((n : ℕ) → Each (Holds (c.holds n) p.id) (requests_at n (requests_of (defs_of T) p.explicit a))) → AllLocked v c T o.explicit o.id texts
      → AllByRecursion (λ t. text_clash (defs_of T) p.explicit a o.explicit (v.reads t) ≡ false) texts
  all_texts a [] g h = tt
  all_texts a (t ∷ ts) g h = (one_text a (v.reads t) g (λ n. (h n).0), all_texts a ts g (λ n. (h n).1))

  module _ (sound : Sound o.id 0 T) (texts : List Text) (locked : AllLocked v c T o.explicit o.id texts) (short : o.explicit ≡ false → IsShort v.reads o.id texts) where
    abbrev After : Bool → Tables
    After explicit = (script v.reads explicit T o.id texts).state.tables

    after_a_script : (a : Stmt) (explicit : Bool) (ts : List Text) → o.explicit ≡ explicit → (explicit ≡ false → IsShort v.reads o.id ts) → AllByRecursion (λ t. text_clash (defs_of T) p.explicit a o.explicit (v.reads t) ≡ false) ts
        → AgreeFor T (script v.reads explicit T o.id ts).state.tables (requests_of (defs_of T) p.explicit a)
    after_a_script a true ts e f h = beside v.reads T o.id ts sound a p.explicit (subst (λ b. AllByRecursion (λ t. text_clash (defs_of T) p.explicit a b (v.reads t) ≡ false) ts) e h)
    after_a_script a false [] e f h = subst (λ r. AgreeFor T r.state.tables (requests_of (defs_of T) p.explicit a)) (sym (nothing_done v.reads false T o.id)) (agree_itself T (requests_of (defs_of T) p.explicit a))
    after_a_script a false (t ∷ []) e f h = beside_one v.reads T o.id t sound a p.explicit (subst (λ b. text_clash (defs_of T) p.explicit a b (v.reads t) ≡ false) e h.0)
    after_a_script a false (t ∷ u ∷ ts) e f h = absurd (f refl)

    of_text : (a : Option Stmt) → ((n : ℕ) → Each (Holds (c.holds n) p.id) (requests_at n (text_requests (defs_of T) p.explicit a))) → AgreeFor T (After o.explicit) (text_requests (defs_of T) p.explicit a)
    of_text None g = record { catalog = tt; cell = tt }
    of_text (Some a) g = after_a_script a o.explicit texts refl short (all_texts a texts g locked)

    pub all_agree : (others : List Text) → AllLocked v c T p.explicit p.id others → AllByRecursion (AgreeFor T (After o.explicit)) (script_requests v.reads (defs_of T) p.explicit others)
    all_agree [] g = tt
    all_agree (t ∷ ts) g = (of_text (v.reads t) (λ n. (g n).0), all_agree ts (λ n. (g n).1))
