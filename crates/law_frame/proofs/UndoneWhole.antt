-- A whole script undone leaves the tables before it.
use Rattle.std.proofs.Common.{◌≡◌, ℕ, refl, ◌∙◌, subst, Bool, true, false, List, [], ◌∷◌, Option, Some, None, arith}
use Rattle.std.specs.Prelude.{if◌then◌else◌, ◌==◌}
use Rattle.std.specs.List.{AllByRecursion}
use Rattle.std.specs.Str.{bytes_eq}
use Rattle.sql_types.specs.declared.statement.Stmt.{Stmt}
use Rattle.sql_types.specs.declared.statement.Stmt.TheVariants as s
use Rattle.spec_model.specs.Catalog.{Tables, versions_of}
use Rattle.spec_model.specs.Reach.{creates}
use Rattle.spec_model.specs.Runs.{Sound}
use Rattle.spec_model.specs.Script.{Reading, Saved, State, back_to, alone, by_statement, start, text_step, script_from, script}
use Rattle.spec_model.specs.Undo.{versions_undone, undone}
use Rattle.law_frame.proofs.SoundStatements.{kept_sound}
use Rattle.law_frame.proofs.StepByStep.{at_copy, Keeps, script_keeps}
use Rattle.law_frame.proofs.UndoneTables.{none_undone, statement_undone, whole_undone}

module _ (tx : ℕ) (T : Tables) where
  -- undo from the first event on leads to T
  pub record LeadsTo (seq : ℕ) (U : Tables) : Type 0 where
    pub sound : Sound tx seq U
    pub undo : undone tx 0 U ≡ T

  pub record AllLead (x : State) : Type 0 where
    pub tables : LeadsTo x.seq x.tables
    pub saved : AllByRecursion (λ c. LeadsTo c.seq c.tables) x.saved

  back_leads : (name : List ℕ) (saved : List Saved) → AllByRecursion (λ c. LeadsTo c.seq c.tables) saved → AllByRecursion (λ c. LeadsTo c.seq c.tables) (back_to saved name)
  back_leads name [] h = tt
  back_leads name (c ∷ cs) h = here (bytes_eq c.name name) (back_leads name cs h.1)
    where
      here : (b : Bool) → AllByRecursion (λ c. LeadsTo c.seq c.tables) (back_to cs name) → AllByRecursion (λ c. LeadsTo c.seq c.tables) (if b then c ∷ cs else back_to cs name)
      here true k = h
      here false k = k

  returned : (c : Saved) (cs : List Saved) → AllByRecursion (λ c. LeadsTo c.seq c.tables) (c ∷ cs) → AllLead (at_copy c cs)
  returned c cs h = record { tables = h.0; saved = h }

  leads_kept : Keeps tx AllLead
  leads_kept = record {
    by_change = λ x stmt k q h. record { tables = record { sound = kept_sound tx x.seq x.tables stmt k h.tables.sound; undo = statement_undone tx 0 x.seq x.tables h.tables.sound (omega arith) stmt k ∙ h.tables.undo }; saved = h.saved };
    by_save = λ x name h. record { tables = h.tables; saved = (h.tables, h.saved) };
    by_return = λ x name c cs e h. returned c cs (subst (AllByRecursion (λ c. LeadsTo c.seq c.tables)) e (back_leads name x.saved h.saved));
  }

module _ (reads : Reading) (T : Tables) (tx : ℕ) (sound : Sound tx 0 T) where
  before : LeadsTo tx T 0 T
  before = record { sound = sound; undo = none_undone tx 0 T sound.each }

  pub opened_undone : (texts : List (List ℕ)) → undone tx 0 (script reads true T tx texts).state.tables ≡ T
  opened_undone texts = (script_keeps tx (AllLead tx T) (leads_kept tx T) reads (start T) texts (record { tables = before; saved = tt })).tables.undo

  -- no statement of this text creates
  abbrev pub CreatesNot : Option Stmt → Type 0
  CreatesNot None = Unit {0}
  CreatesNot (Some stmt) = creates stmt ≡ false

  alone_undone : (stmt : Stmt) → creates stmt ≡ false → undone tx 0 (alone tx (start T) stmt).0.tables ≡ T
  alone_undone (s.Create c) k = cc
  alone_undone (s.Index c) k = cc
  alone_undone (s.Alter x) k = cc
  alone_undone (s.Drop name) k = cc
  alone_undone (s.Change x) k = whole_undone T tx 0 (s.Change x) sound refl
  alone_undone (s.Select q) k = whole_undone T tx 0 (s.Select q) sound refl
  alone_undone s.Begin k = before.undo
  alone_undone s.Commit k = before.undo
  alone_undone (s.Save name) k = before.undo
  alone_undone (s.Rollback name) k = before.undo
  alone_undone s.Digest k = before.undo
  alone_undone s.Image k = before.undo

  text_undone : (o : Option Stmt) → CreatesNot o → undone tx 0 (by_statement false tx (start T) o).0.tables ≡ T
  text_undone None k = before.undo
  text_undone (Some stmt) k = alone_undone stmt k

  pub one_undone : (text : List ℕ) → CreatesNot (reads text) → undone tx 0 (script reads false T tx (text ∷ [])).state.tables ≡ T
  unfolding script_from text_step
  one_undone text k = text_undone (reads text) k

-- the versions of a table
pub undone_at : (tx n : ℕ) (T : Tables) (id : ℕ) → versions_of (undone tx n T) id ≡ versions_undone tx n (versions_of T id)
unfolding undone
undone_at tx n [] id = refl
undone_at tx n (t ∷ ts) id = here (t.def.id == id) (undone_at tx n ts id)
  where
    here : (b : Bool) → versions_of (undone tx n ts) id ≡ versions_undone tx n (versions_of ts id) → (if b then versions_undone tx n t.versions else versions_of (undone tx n ts) id) ≡ versions_undone tx n (if b then t.versions else versions_of ts id)
    here true e = refl
    here false e = e
