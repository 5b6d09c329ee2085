-- Who changes the definitions of tables.
use Rattle.std.proofs.Common.{◌≡◌, ℕ, ◌+◌, refl, ap, ◌∙◌, subst, Bool, true, false, List, [], ◌∷◌, Option, Some, Ok, Err}
use Rattle.std.specs.Prelude.{◌==◌, ◌&&◌, ◌||◌, if◌then◌else◌}
use Rattle.std.proofs.lemmas.Bool.{eq-eqb}
use Rattle.std.specs.List.{AllByRecursion}
use Rattle.std.specs.Str.{bytes_eq}
use Rattle.sql_types.specs.declared.lock.Mode.{Mode}
use Rattle.sql_types.specs.declared.lock.Mode.TheVariants.{IS, IX, S, X}
use Rattle.sql_types.specs.declared.lock.LockRequest.{LockRequest}
use Rattle.sql_types.specs.declared.statement.Stmt.{Stmt}
use Rattle.sql_types.specs.declared.statement.Stmt.TheVariants as s
use Rattle.sql_types.specs.declared.statement.RowStmt.{RowStmt}
use Rattle.sql_types.specs.declared.statement.Select.{Select}
use Rattle.sql_types.specs.declared.table.TableDef.{TableDef}
use Rattle.sql_types.specs.declared.version.Version.{Version}
use Rattle.spec_model.specs.Refusals.{Checked}
use Rattle.spec_model.specs.Changes.{Changes, row_changes}
use Rattle.spec_model.specs.Catalog.{Defs, NamedPart, Tables, defs_of, versions_of, changed_table}
use Rattle.spec_model.specs.Checks.{row_statement_check}
use Rattle.spec_model.specs.Query.{query_check}
use Rattle.spec_model.specs.Effect.{effect, query_rows}
use Rattle.spec_model.specs.Locks as request
use Rattle.spec_model.specs.ChangeSets.{TableChange, changed_from, changed_in, Definition, as_before, defined, row_change_set, row_stmt_change_set, select_change_set, query_change_set, change_set}
use Rattle.spec_model.specs.Reach.{creates}
use Rattle.spec_model.specs.Script.{Reading, Saved, State, back_to, in_transaction, alone, by_statement, start, text_step, script_from, script}
use Rattle.sql_types.specs.declared.reply.Reply.TheVariants.{Refused}
use Rattle.sql_value.specs.declared.refusal.Refusal.TheVariants.{ForbiddenInTransaction}
use Rattle.law_frame.proofs.ChangeSets.{carries_change_set_out, same_def}
use Rattle.law_frame.proofs.StepByStep.{Keeps, script_keeps}

-- ---- a statement

pub same_defs : (id : ℕ) (f : List Version → List Version) (T : Tables) → defs_of (changed_table id f T) ≡ defs_of T
same_defs id f [] = refl
same_defs id f (t ∷ ts) = rw (same_def (t.def.id == id) f t, same_defs id f ts) refl

pub changes_keep_defs : (tx seq : ℕ) (cs : List TableChange) (T : Tables) → defs_of (changed_from tx seq cs T) ≡ defs_of T
changes_keep_defs tx seq [] T = refl
changes_keep_defs tx seq (c ∷ cs) T = changes_keep_defs tx (seq + 1) cs (changed_in (tx, seq) c T) ∙ same_defs c.0 _ T

row_change_set_keeps : (id : ℕ) (m : Checked Changes) → (row_change_set id m).definition ≡ as_before
row_change_set_keeps id (Ok c) = refl
row_change_set_keeps id (Err e) = refl

row_stmt_change_set_keeps : (T : Tables) (stmt : RowStmt) (m : Checked TableDef) → (row_stmt_change_set T stmt m).definition ≡ as_before
row_stmt_change_set_keeps T stmt (Ok def) = row_change_set_keeps def.id (row_changes def (versions_of T def.id) stmt)
row_stmt_change_set_keeps T stmt (Err e) = refl

select_change_set_keeps : (m : Checked (List _)) → (select_change_set m).definition ≡ as_before
select_change_set_keeps (Ok rows) = refl
select_change_set_keeps (Err e) = refl

query_change_set_keeps : (T : Tables) (q : Select) (m : Checked NamedPart) → (query_change_set T q m).definition ≡ as_before
query_change_set_keeps T q (Ok n) = select_change_set_keeps (query_rows q n (versions_of T n.0.id))
query_change_set_keeps T q (Err e) = refl

pub change_set_keeps : (T : Tables) (stmt : Stmt) → creates stmt ≡ false → (change_set T stmt).definition ≡ as_before
unfolding change_set
change_set_keeps T (s.Create c) e = cc
change_set_keeps T (s.Index c) e = cc
change_set_keeps T (s.Alter a) e = cc
change_set_keeps T (s.Drop name) e = cc
change_set_keeps T (s.Change stmt) e = row_stmt_change_set_keeps T stmt (row_statement_check (defs_of T) stmt)
change_set_keeps T (s.Select q) e = query_change_set_keeps T q (query_check (defs_of T) q)
change_set_keeps T s.Begin e = refl
change_set_keeps T s.Commit e = refl
change_set_keeps T (s.Save name) e = refl
change_set_keeps T (s.Rollback name) e = refl
change_set_keeps T s.Digest e = refl
change_set_keeps T s.Image e = refl

-- the tables after a statement that doesn't create are those before it with its changes
pub tables_after : (T : Tables) (tx seq : ℕ) (stmt : Stmt) → creates stmt ≡ false → (effect T tx seq stmt).tables ≡ changed_from tx seq (change_set T stmt).changes T
tables_after T tx seq stmt e =
    ap (λ f. f.tables) (carries_change_set_out T tx seq stmt)
    ∙ ap (λ (d : Definition). defined d (changed_from tx seq (change_set T stmt).changes T)) (change_set_keeps T stmt e)

pub defs_after : (T : Tables) (tx seq : ℕ) (stmt : Stmt) → creates stmt ≡ false → defs_of (effect T tx seq stmt).tables ≡ defs_of T
defs_after T tx seq stmt e = ap defs_of (tables_after T tx seq stmt e) ∙ changes_keep_defs tx seq (change_set T stmt).changes T

-- ---- a script that BEGIN opened

module _ (defs : Defs) where
  abbrev SavedHave : List Saved → Type 0
  SavedHave saved = AllByRecursion (λ c. defs_of c.tables ≡ defs) saved

  -- the tables and all copies have these definitions
  pub record Have (x : State) : Type 0 where
    pub tables : defs_of x.tables ≡ defs
    pub saved : SavedHave x.saved

  have_back : (name : List ℕ) (saved : List Saved) → SavedHave saved → SavedHave (back_to saved name)
  have_back name [] h = tt
  have_back name (c ∷ cs) h = chosen (bytes_eq c.name name) (have_back name cs h.1)
    where
      chosen : (b : Bool) → SavedHave (back_to cs name) → SavedHave (if b then c ∷ cs else back_to cs name)
      chosen true k = h
      chosen false k = k

  returned : (saved : List Saved) (x : State) → SavedHave saved → (c : Saved) (cs : List Saved) → saved ≡ c ∷ cs → Have (record { tables = c.tables; seq = c.seq; saved = c ∷ cs })
  returned saved x h c cs e = let k : SavedHave (c ∷ cs) = subst SavedHave e h in record { tables = k.0; saved = k }

  pub all_have : (tx : ℕ) → Keeps tx Have
  all_have tx = record {
    by_change = λ x stmt e q h. record { tables = defs_after x.tables tx x.seq stmt e ∙ h.tables; saved = h.saved };
    by_save = λ x name h. record { tables = h.tables; saved = (h.tables, h.saved) };
    by_return = λ x name c cs e h. returned (back_to x.saved name) x (have_back name x.saved h.saved) c cs e;
  }

pub opened_keep_defs : (reads : Reading) (T : Tables) (tx : ℕ) (texts : List (List ℕ)) → Have (defs_of T) (script reads true T tx texts).state
opened_keep_defs reads T tx texts = script_keeps tx (Have (defs_of T)) (all_have (defs_of T) tx) reads (start T) texts (record { tables = refl; saved = tt })

-- ---- a statement with wants in a table's cell

pub cell_requests_dont_create : (defs : Defs) (stmt : Stmt) (c : ℕ × List LockRequest) → request.cell_requests defs stmt ≡ Some c → creates stmt ≡ false
unfolding request.cell_requests
cell_requests_dont_create defs (s.Create c) w e = cc
cell_requests_dont_create defs (s.Index c) w e = cc
cell_requests_dont_create defs (s.Alter a) w e = cc
cell_requests_dont_create defs (s.Drop name) w e = cc
cell_requests_dont_create defs (s.Change stmt) w e = refl
cell_requests_dont_create defs (s.Select q) w e = refl
cell_requests_dont_create defs s.Begin w e = refl
cell_requests_dont_create defs s.Commit w e = refl
cell_requests_dont_create defs (s.Save name) w e = refl
cell_requests_dont_create defs (s.Rollback name) w e = refl
cell_requests_dont_create defs s.Digest w e = refl
cell_requests_dont_create defs s.Image w e = refl

pub cell_requests_share : (defs : Defs) (explicit : Bool) (stmt : Stmt) (c : ℕ × List LockRequest) → request.cell_requests defs stmt ≡ Some c → request.catalog_request explicit stmt ≡ Some S
unfolding request.cell_requests
cell_requests_share defs explicit (s.Create c) w e = cc
cell_requests_share defs explicit (s.Index c) w e = cc
cell_requests_share defs explicit (s.Alter a) w e = cc
cell_requests_share defs explicit (s.Drop name) w e = cc
cell_requests_share defs true (s.Change stmt) w e = refl
cell_requests_share defs true (s.Select q) w e = refl
cell_requests_share defs false (s.Change stmt) w e = refl
cell_requests_share defs false (s.Select q) w e = refl
cell_requests_share defs explicit s.Begin w e = cc
cell_requests_share defs explicit s.Commit w e = cc
cell_requests_share defs explicit (s.Save name) w e = cc
cell_requests_share defs explicit (s.Rollback name) w e = cc
cell_requests_share defs explicit s.Digest w e = cc
cell_requests_share defs explicit s.Image w e = cc

pub alone_keeps : (T : Tables) (tx : ℕ) (stmt : Stmt) → creates stmt ≡ false → defs_of (alone tx (start T) stmt).0.tables ≡ defs_of T
alone_keeps T tx (s.Create c) e = cc
alone_keeps T tx (s.Index c) e = cc
alone_keeps T tx (s.Alter a) e = cc
alone_keeps T tx (s.Drop name) e = cc
alone_keeps T tx (s.Change stmt) e = defs_after T tx 0 (s.Change stmt) refl
alone_keeps T tx (s.Select q) e = defs_after T tx 0 (s.Select q) refl
alone_keeps T tx s.Begin e = refl
alone_keeps T tx s.Commit e = refl
alone_keeps T tx (s.Save name) e = refl
alone_keeps T tx (s.Rollback name) e = refl
alone_keeps T tx s.Digest e = refl
alone_keeps T tx s.Image e = refl

-- a statement alone that doesn't create leaves the definitions
pub one_keeps_defs : (reads : Reading) (T : Tables) (tx : ℕ) (text : List ℕ) (stmt : Stmt) → reads text ≡ Some stmt → creates stmt ≡ false
    → defs_of (script reads false T tx (text ∷ [])).state.tables ≡ defs_of T
unfolding script_from text_step
one_keeps_defs reads T tx text stmt e k = ap (λ (o : Option Stmt). defs_of (by_statement false tx (start T) o).0.tables) e ∙ alone_keeps T tx stmt k

-- ---- who creates

pub creates_alone : (stmt : Stmt) → creates stmt ≡ true → request.catalog_request false stmt ≡ Some X
creates_alone (s.Create c) e = refl
creates_alone (s.Index c) e = refl
creates_alone (s.Alter a) e = refl
creates_alone (s.Drop name) e = refl
creates_alone (s.Change stmt) e = cc
creates_alone (s.Select q) e = cc
creates_alone s.Begin e = cc
creates_alone s.Commit e = cc
creates_alone (s.Save name) e = cc
creates_alone (s.Rollback name) e = cc
creates_alone s.Digest e = cc
creates_alone s.Image e = cc

pub alone_conflicts : (m : Mode) → (request.conflict X m ≡ true) × (request.conflict m X ≡ true)
unfolding request.conflict
alone_conflicts IS = (refl, refl)
alone_conflicts IX = (refl, refl)
alone_conflicts S = (refl, refl)
alone_conflicts X = (refl, refl)

-- CREATE, ALTER and DROP in a transaction that BEGIN opened
pub opened_refuses : (tx : ℕ) (x : State) (stmt : Stmt) → creates stmt ≡ true → in_transaction tx x stmt ≡ (x, Refused ForbiddenInTransaction)
opened_refuses tx x (s.Create c) e = refl
opened_refuses tx x (s.Index c) e = refl
opened_refuses tx x (s.Alter a) e = refl
opened_refuses tx x (s.Drop name) e = refl
opened_refuses tx x (s.Change stmt) e = cc
opened_refuses tx x (s.Select q) e = cc
opened_refuses tx x s.Begin e = cc
opened_refuses tx x s.Commit e = cc
opened_refuses tx x (s.Save name) e = cc
opened_refuses tx x (s.Rollback name) e = cc
opened_refuses tx x s.Digest e = cc
opened_refuses tx x s.Image e = cc

pub nothing_done : (reads : Reading) (explicit : Bool) (T : Tables) (tx : ℕ) → script reads explicit T tx [] ≡ record { state = start T; replies = [] }
unfolding script_from
nothing_done reads explicit T tx = refl

-- ---- clash

pub catalog_clashes : (defs : Defs) (o p : Bool) (a b : Stmt) (v w : Mode) → request.catalog_request o a ≡ Some v → request.catalog_request p b ≡ Some w → request.conflict v w ≡ true → request.clash defs o a p b ≡ true
unfolding request.clash
catalog_clashes defs o p a b v w e f g = rw (e, f) (rw g refl)

pub cells_clash : (defs : Defs) (o p : Bool) (a b : Stmt) (c d : ℕ × List LockRequest) → request.cell_requests defs a ≡ Some c → request.cell_requests defs b ≡ Some d → c.0 ≡ d.0 → request.some_conflict c.1 d.1 ≡ true → request.clash defs o a p b ≡ true
unfolding request.clash
cells_clash defs o p a b c d e f g h =
    rw (e, f, eq-eqb c.0 d.0 g, h) (or_true (request.catalog_clash (request.catalog_request o a) (request.catalog_request p b)))
  where
    or_true : (b : Bool) → (b || (true && true)) ≡ true
    or_true true = refl
    or_true false = refl
