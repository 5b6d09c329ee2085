-- What is kept by each step of a transaction that BEGIN opened is kept by its script.
use Rattle.std.proofs.Common.{◌≡◌, ℕ, subst, Bool, true, false, List, [], ◌∷◌, Option, Some, None, refl}
use Rattle.std.specs.Prelude.{if◌then◌else◌, nat_lt, length}
use Rattle.std.specs.List.{AllByRecursion}
use Rattle.std.specs.Str.{bytes_eq}
use Rattle.spec_model.specs.Catalog.{Tables}
use Rattle.sql_types.specs.declared.statement.Stmt.{Stmt}
use Rattle.sql_types.specs.declared.statement.Stmt.TheVariants as s
use Rattle.sql_types.specs.declared.reply.Reply.{Reply}
use Rattle.spec_model.specs.Limits.{max_savepoints}
use Rattle.spec_model.specs.Effect.{effect}
use Rattle.spec_model.specs.Reach.{creates}
use Rattle.spec_model.specs.Script.{Reading, Saved, State, Step, by_effect, saves, back_to, rolled_back, rolls_back_to, in_transaction, by_statement, text_step, script_from}

abbrev pub with_copy : State → List ℕ → State
with_copy x name = record { tables = x.tables; seq = x.seq; saved = record { name = name; tables = x.tables; seq = x.seq } ∷ x.saved }

abbrev pub at_copy : Saved → List Saved → State
at_copy c cs = record { tables = c.tables; seq = c.seq; saved = c ∷ cs }

-- what each step keeps, where each statement is such
pub record KeepsWhere (tx : ℕ) (Such : Stmt → Type 0) (P : State → Type 0) : Type 0 where
  pub by_change : (x : State) (stmt : Stmt) → creates stmt ≡ false → Such stmt → P x → P (by_effect x (effect x.tables tx x.seq stmt)).0
  pub by_save : (x : State) (name : List ℕ) → P x → P (with_copy x name)
  pub by_return : (x : State) (name : List ℕ) (c : Saved) (cs : List Saved) → back_to x.saved name ≡ c ∷ cs → P x → P (at_copy c cs)

abbrev pub Any : Stmt → Type 0
Any stmt = Unit {0}

abbrev pub Keeps : ℕ → (State → Type 0) → Type 0
Keeps tx P = KeepsWhere tx Any P

abbrev pub OnText : (Stmt → Type 0) → Option Stmt → Type 0
OnText Such None = Unit {0}
OnText Such (Some stmt) = Such stmt

module _ (tx : ℕ) (Such : Stmt → Type 0) (P : State → Type 0) (k : KeepsWhere tx Such P) where
  chosen : (b : Bool) (y x : State) (r q : Reply) → P y → P x → let z : Step = if b then (y, r) else (x, q) in P z.0
  chosen true y x r q h i = h
  chosen false y x r q h i = i

  save_keeps : (x : State) (name : List ℕ) → P x → P (saves x name).0
  unfolding saves
  save_keeps x name h = chosen (nat_lt (length x.saved) max_savepoints) (with_copy x name) x _ _ (k.by_save x name h) h

  back : (x : State) (name : List ℕ) (saved : List Saved) → back_to x.saved name ≡ saved → P x → P (rolled_back x saved).0
  back x name [] e h = h
  back x name (c ∷ cs) e h = k.by_return x name c cs e h

  return_keeps : (x : State) (name : List ℕ) → P x → P (rolls_back_to x name).0
  unfolding rolls_back_to
  return_keeps x name h = back x name (back_to x.saved name) refl h

  statement_keeps : (x : State) (stmt : Stmt) → Such stmt → P x → P (in_transaction tx x stmt).0
  statement_keeps x (s.Create c) q h = h
  statement_keeps x (s.Index c) q h = h
  statement_keeps x (s.Alter a) q h = h
  statement_keeps x (s.Drop name) q h = h
  statement_keeps x (s.Change stmt) q h = k.by_change x (s.Change stmt) refl q h
  statement_keeps x (s.Select query) q h = k.by_change x (s.Select query) refl q h
  statement_keeps x s.Begin q h = h
  statement_keeps x s.Commit q h = h
  statement_keeps x (s.Save name) q h = save_keeps x name h
  statement_keeps x (s.Rollback (Some name)) q h = return_keeps x name h
  statement_keeps x (s.Rollback None) q h = h
  statement_keeps x s.Digest q h = h
  statement_keeps x s.Image q h = h

  text_keeps : (x : State) (o : Option Stmt) → OnText Such o → P x → P (by_statement true tx x o).0
  text_keeps x None q h = h
  text_keeps x (Some stmt) q h = statement_keeps x stmt q h

  pub script_keeps_where : (reads : Reading) (x : State) (texts : List (List ℕ)) → AllByRecursion (λ t. OnText Such (reads t)) texts → P x → P (script_from reads true tx x texts).state
  unfolding script_from text_step
  script_keeps_where reads x [] q h = h
  script_keeps_where reads x (t ∷ ts) q h = script_keeps_where reads (text_step reads true tx x t).0 ts q.1 (text_keeps x (reads t) q.0 h)

any_text : (o : Option Stmt) → OnText Any o
any_text None = tt
any_text (Some stmt) = tt

any_texts : (reads : Reading) (texts : List (List ℕ)) → AllByRecursion (λ t. OnText Any (reads t)) texts
any_texts reads [] = tt
any_texts reads (t ∷ ts) = (any_text (reads t), any_texts reads ts)

pub script_keeps : (tx : ℕ) (P : State → Type 0) → Keeps tx P → (reads : Reading) (x : State) (texts : List (List ℕ)) → P x → P (script_from reads true tx x texts).state
script_keeps tx P k reads x texts h = script_keeps_where tx Any P k reads x texts (any_texts reads texts) h

-- ---- what holds of the tables and of each copy

abbrev pub Throughout : (ℕ → Tables → Type 0) → State → Type 0
Throughout A x = A x.seq x.tables × AllByRecursion (λ c. A c.seq c.tables) x.saved

module _ (A : ℕ → Tables → Type 0) where
  back_throughout : (name : List ℕ) (saved : List Saved) → AllByRecursion (λ c. A c.seq c.tables) saved → AllByRecursion (λ c. A c.seq c.tables) (back_to saved name)
  back_throughout name [] h = tt
  back_throughout name (c ∷ cs) h = here (bytes_eq c.name name) (back_throughout name cs h.1)
    where
      here : (b : Bool) → AllByRecursion (λ d. A d.seq d.tables) (back_to cs name) → AllByRecursion (λ d. A d.seq d.tables) (if b then c ∷ cs else back_to cs name)
      here true k = h
      here false k = k

  at_its_copy : (saved : List Saved) (c : Saved) (cs : List Saved) → saved ≡ c ∷ cs → AllByRecursion (λ d. A d.seq d.tables) saved → Throughout A (at_copy c cs)
  at_its_copy saved c cs e h = let k : AllByRecursion (λ d. A d.seq d.tables) (c ∷ cs) = subst (λ (l : List Saved). AllByRecursion (λ d. A d.seq d.tables) l) e h in (k.0, k)

  pub throughout : (tx : ℕ) (Such : Stmt → Type 0)
      → ((n : ℕ) (T : Tables) (stmt : Stmt) → creates stmt ≡ false → Such stmt → A n T → A (effect T tx n stmt).seq (effect T tx n stmt).tables)
      → KeepsWhere tx Such (Throughout A)
  throughout tx Such step = record {
    by_change = λ x stmt k q h. (step x.seq x.tables stmt k q h.0, h.1);
    by_save = λ x name h. (h.0, (h.0, h.1));
    by_return = λ x name c cs e h. at_its_copy (back_to x.saved name) c cs e (back_throughout name x.saved h.1);
  }
