-- A script leaves the rows of a key on which its transaction has no X; and where it doesn't create, undone as a whole it leaves the tables.
use Rattle.std.proofs.Common.{◌≡◌, Bool, List, None, Option, Some, [], ap, false, refl, subst, sym, true, ℕ, ◌∙◌, ◌∷◌, ⊎_elim}
use Rattle.std.specs.List.{AllByRecursion, list_any}
use Rattle.spec_model.specs.Locks.{CellRequests, whole}
use Rattle.law_frame.proofs.UndoneWhole.{CreatesNot, one_undone, opened_undone}
use Rattle.spec_model.specs.Catalog.{Defs, Tables, defs_of, versions_of}
use Rattle.spec_history.specs.Lists.{Each, Text}
use Rattle.spec_history.proofs.Refused.{each_left, each_right}
use Rattle.law_protocol_steps.proofs.Excluded.{HasNoX, held_reach, none_reach}
use Rattle.sql_types.specs.declared.lock.Hold.{Hold}
use Rattle.spec_protocol.specs.Cells.{catalog_at, cell_of}
use Rattle.spec_protocol.specs.RequestsIn.{Holds, of_catalog, of_cell, requests_at, requests_in}
use Rattle.law_frame.proofs.SameEnds.{IsShort}
use Rattle.spec_model.specs.Keys.{Key, of_key}
use Rattle.sql_types.specs.declared.lock.Mode.{Mode}
use Rattle.spec_model.specs.Script.{Reading, alone, by_statement, script, script_from, start, text_step}
use Rattle.spec_protocol.specs.Server.{Server}
use Rattle.spec_model.specs.Runs.{Sound}
use Rattle.sql_types.specs.declared.statement.Stmt.{Stmt}
use Rattle.sql_types.specs.declared.lock.LockRequest.{LockRequest}
use Rattle.spec_model.specs.Agreement.{LockRequests, columns_at, requests_of}
use Rattle.spec_model.specs.Reach.{catalog_reaches, cell_reaches, lets_change, reaches}
use Rattle.spec_model.specs.SystemTables.{columns_id, tables_id}
use Rattle.std.proofs.lemmas.Bool.{eq-eqb, eqb-true, or_cases, or_from}
use Rattle.std.specs.Prelude.{if◌then◌else◌, ◌&&◌, ◌==◌}
use Rattle.law_frame.proofs.LeftTables.{left_key}
use Rattle.law_frame.proofs.UndoneTables.{none_undone}
use Rattle.law_frame.proofs.Definitions.{nothing_done, opened_keep_defs}
use Rattle.law_frame.proofs.LeftScripts.{script_leaves_key}
use Rattle.spec_model.specs.ScriptRequests.{script_requests, text_requests}
use Rattle.spec_model.specs.Undo.{undone}
use Rattle.sql_types.specs.declared.lock.Mode.TheVariants as mode
use Rattle.sql_types.specs.declared.statement.Stmt.TheVariants as s
use Rattle.law_frame.proofs.Definitions.{alone_keeps}

-- ---- what it wants reaches no key without an X

module _ (holds : List Hold) (tx id : ℕ) (key : Key) (free : HasNoX holds tx key) where
  system_not : (m : Option Mode) (b : Bool) → catalog_reaches id m ≡ b → (b ≡ true → Each (Holds holds tx) (of_catalog m)) → catalog_reaches id m ≡ false
  system_not m false e h = e
  system_not (Some mode.X) true e h = let no : lets_change key (whole mode.X) ≡ false = held_reach holds tx key (whole mode.X) free (h refl).0 in cc
  system_not (Some mode.S) true e h = cc
  system_not (Some mode.IX) true e h = cc
  system_not (Some mode.IS) true e h = cc
  system_not None true e h = cc

  in_cell : (c : ℕ × List LockRequest) (b : Bool) → (c.0 == id) ≡ b → Each (Holds holds tx) (of_cell (cell_of id) (Some c)) → (b && list_any (lets_change key) c.1) ≡ false
  in_cell c true e h = none_reach holds tx key c.1 free (subst (Each (Holds holds tx)) here h)
    where
      here : (if cell_of c.0 == cell_of id then c.1 else []) ≡ c.1
      here = rw (eq-eqb (cell_of c.0) (cell_of id) (ap cell_of (eqb-true c.0 id e))) refl
  in_cell c false e h = refl

  cell_left : (cell : CellRequests) → Each (Holds holds tx) (of_cell (cell_of id) cell) → cell_reaches id key cell ≡ false
  cell_left None h = refl
  cell_left (Some c) h = in_cell c (c.0 == id) refl h

system_cell : (id : ℕ) (m : Option Mode) → catalog_reaches id m ≡ true → cell_of id ≡ catalog_at
system_cell id (Some mode.X) e = ⊎_elim
    (λ (f : (id == tables_id) ≡ true). ap cell_of (eqb-true id tables_id f))
    (λ (f : (id == columns_id) ≡ true). ap cell_of (eqb-true id columns_id f))
    (or_cases (id == tables_id) (id == columns_id) e)
system_cell id (Some mode.S) e = cc
system_cell id (Some mode.IX) e = cc
system_cell id (Some mode.IS) e = cc
system_cell id None e = cc

module _ (holds : ℕ → List Hold) (tx id : ℕ) (key : Key) (free : HasNoX (holds (cell_of id)) tx key) where
  pub none_requested : (w : LockRequests) → ((n : ℕ) → Each (Holds (holds n) tx) (requests_at n w)) → reaches id key w ≡ false
  none_requested w h = or_from (catalog_reaches id w.catalog) (cell_reaches id key w.cell)
      (system_not (holds (cell_of id)) tx id key free w.catalog (catalog_reaches id w.catalog) refl
      (λ e. let there = system_cell id w.catalog e in subst (λ (n : ℕ). Each (Holds (holds n) tx) (of_catalog w.catalog)) (sym there) (each_left (Holds (holds catalog_at) tx) (of_catalog w.catalog) (of_cell catalog_at w.cell) (h catalog_at))))
      (cell_left (holds (cell_of id)) tx id key free w.cell (each_right (Holds (holds (cell_of id)) tx) (if cell_of id == catalog_at then of_catalog w.catalog else []) (of_cell (cell_of id) w.cell) (h (cell_of id))))

  pub none_requested_by : (v : Server) (D : Defs) (b : Bool) (texts : List Text) → ((n : ℕ) → Each (λ t. Each (Holds (holds n) tx) (requests_in v D b n t)) texts) → AllByRecursion (λ w. reaches id key w ≡ false) (script_requests v.reads D b texts)
  none_requested_by v D b [] h = tt
  none_requested_by v D b (t ∷ ts) h = (none_requested (text_requests D b (v.reads t)) (λ n. (h n).0), none_requested_by v D b ts (λ n. (h n).1))

-- ---- scripts

module _ (reads : Reading) (T : Tables) (tx : ℕ) (sound : Sound tx 0 T) where
  module _ (id : ℕ) (key : Key) where
    abbrev Left : Tables → Type 0
    Left U = of_key (columns_at (defs_of T) id) key (versions_of U id) ≡ of_key (columns_at (defs_of T) id) key (versions_of T id)

    alone_left : (stmt : Stmt) → reaches id key (requests_of (defs_of T) false stmt) ≡ false → Left (alone tx (start T) stmt).0.tables
    alone_left (s.Create c) h = left_key tx 0 T id sound key (s.Create c) h
    alone_left (s.Index c) h = left_key tx 0 T id sound key (s.Index c) h
    alone_left (s.Alter a) h = left_key tx 0 T id sound key (s.Alter a) h
    alone_left (s.Drop name) h = left_key tx 0 T id sound key (s.Drop name) h
    alone_left (s.Change x) h = left_key tx 0 T id sound key (s.Change x) h
    alone_left (s.Select q) h = left_key tx 0 T id sound key (s.Select q) h
    alone_left s.Begin h = refl
    alone_left s.Commit h = refl
    alone_left (s.Save name) h = refl
    alone_left (s.Rollback name) h = refl
    alone_left s.Digest h = refl
    alone_left s.Image h = refl

    text_left : (o : Option Stmt) → reaches id key (text_requests (defs_of T) false o) ≡ false → Left (by_statement false tx (start T) o).0.tables
    text_left None h = refl
    text_left (Some stmt) h = alone_left stmt h

    one_left : (text : List ℕ) → reaches id key (text_requests (defs_of T) false (reads text)) ≡ false → Left (script reads false T tx (text ∷ [])).state.tables
    unfolding script_from text_step
    one_left text h = text_left (reads text) h

    pub key_left : (b : Bool) (texts : List Text) → (b ≡ false → IsShort reads tx texts) → AllByRecursion (λ w. reaches id key w ≡ false) (script_requests reads (defs_of T) b texts) → Left (script reads b T tx texts).state.tables
    key_left true texts short h = script_leaves_key tx T id key reads texts sound h
    key_left false [] short h = ap (λ r. of_key (columns_at (defs_of T) id) key (versions_of r.state.tables id)) (nothing_done reads false T tx)
    key_left false (t ∷ []) short h = one_left t h.0
    key_left false (t ∷ u ∷ ts) short h = absurd (short refl)

  -- ---- undone as a whole

  text_keeps : (o : Option Stmt) → CreatesNot reads T tx sound o → defs_of (by_statement false tx (start T) o).0.tables ≡ defs_of T
  text_keeps None k = refl
  text_keeps (Some stmt) k = alone_keeps T tx stmt k

  one_keeps : (text : List ℕ) → CreatesNot reads T tx sound (reads text) → defs_of (script reads false T tx (text ∷ [])).state.tables ≡ defs_of T
  unfolding script_from text_step
  one_keeps text k = text_keeps (reads text) k

  pub kept_and_undone : (b : Bool) (texts : List Text) → (b ≡ false → IsShort reads tx texts) → (b ≡ false → Each (λ t. CreatesNot reads T tx sound (reads t)) texts)
      → (defs_of (script reads b T tx texts).state.tables ≡ defs_of T) × (undone tx 0 (script reads b T tx texts).state.tables ≡ T)
  kept_and_undone true texts short none = ((opened_keep_defs reads T tx texts).tables, opened_undone reads T tx sound texts)
  kept_and_undone false [] short none = let same = nothing_done reads false T tx in (ap (λ z. defs_of z.state.tables) same, ap (λ z. undone tx 0 z.state.tables) same ∙ none_undone tx 0 T sound.each)
  kept_and_undone false (t ∷ []) short none = (one_keeps t (none refl).0, one_undone reads T tx sound t (none refl).0)
  kept_and_undone false (t ∷ u ∷ ts) short none = absurd (short refl)
