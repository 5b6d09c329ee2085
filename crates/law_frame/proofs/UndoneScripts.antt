-- Going back to a savepoint is undo by number.
use Rattle.std.proofs.Common.{◌≡◌, ℕ, ◌≤◌, sym, ap, subst, ◌∙◌, Bool, true, false, List, [], ◌∷◌, arith}
use Rattle.std.specs.Prelude.{if◌then◌else◌}
use Rattle.std.specs.List.{AllByRecursion}
use Rattle.std.specs.Str.{bytes_eq}
use Rattle.sql_types.specs.declared.statement.Stmt.{Stmt}
use Rattle.spec_model.specs.Catalog.{Tables}
use Rattle.spec_model.specs.Effect.{Effect, effect}
use Rattle.spec_model.specs.Reach.{creates}
use Rattle.spec_model.specs.Runs.{Sound}
use Rattle.spec_model.specs.Script.{Reading, Saved, State, back_to, rolled_back, rolls_back_to, start, script}
use Rattle.spec_model.specs.Undo.{undone}
use Rattle.law_frame.proofs.Alls.{all_weaker}
use Rattle.law_frame.proofs.ChangeSets.{carries_change_set_out}
use Rattle.law_frame.proofs.StepByStep.{at_copy, Keeps, script_keeps}
use Rattle.law_frame.proofs.SoundStatements.{kept_sound}
use Rattle.law_frame.proofs.UndoneTables.{none_undone, statement_undone}

pub counter_rises : (T : Tables) (tx seq : ℕ) (stmt : Stmt) → seq ≤ (effect T tx seq stmt).seq
counter_rises T tx seq stmt = omega (arith, ap (λ (e : Effect). e.seq) (carries_change_set_out T tx seq stmt))

module _ (tx : ℕ) where
  -- a copy to which undo leads
  pub record Under (T : Tables) (seq : ℕ) (c : Saved) : Type 0 where
    pub below : c.seq ≤ seq
    pub undo : undone tx c.seq T ≡ c.tables
    pub sound : Sound tx c.seq c.tables

  abbrev pub AllUnder : Tables → ℕ → List Saved → Type 0
  AllUnder T seq saved = AllByRecursion (Under T seq) saved

  -- the older ones are under each copy
  abbrev pub Nested : List Saved → Type 0
  Nested [] = Unit {0}
  Nested (c ∷ cs) = AllUnder c.tables c.seq cs × Nested cs

  pub record Undoable (x : State) : Type 0 where
    pub sound : Sound tx x.seq x.tables
    pub under : AllUnder x.tables x.seq x.saved
    pub nested : Nested x.saved

  after_change : (T : Tables) (seq : ℕ) (stmt : Stmt) → creates stmt ≡ false → Sound tx seq T → (c : Saved) → Under T seq c → (let e : Effect = effect T tx seq stmt in Under e.tables e.seq c)
  after_change T seq stmt k sound c u = record {
    below = omega (arith, u.below, counter_rises T tx seq stmt);
    undo = statement_undone tx c.seq seq T sound u.below stmt k ∙ u.undo;
    sound = u.sound;
  }

  itself : (name : List ℕ) (T : Tables) (seq : ℕ) → Sound tx seq T → Under T seq (record { name = name; tables = T; seq = seq })
  itself name T seq sound = record { below = omega arith; undo = none_undone tx seq T sound.each; sound = sound }

  module _ (T : Tables) (seq : ℕ) (name : List ℕ) where
    back_under : (saved : List Saved) → AllUnder T seq saved → AllUnder T seq (back_to saved name)
    back_under [] h = tt
    back_under (c ∷ cs) h = here (bytes_eq c.name name) (back_under cs h.1)
      where
        here : (b : Bool) → AllUnder T seq (back_to cs name) → AllUnder T seq (if b then c ∷ cs else back_to cs name)
        here true k = h
        here false k = k

    back_nested : (saved : List Saved) → Nested saved → Nested (back_to saved name)
    back_nested [] h = tt
    back_nested (c ∷ cs) h = here (bytes_eq c.name name) (back_nested cs h.1)
      where
        here : (b : Bool) → Nested (back_to cs name) → Nested (if b then c ∷ cs else back_to cs name)
        here true k = h
        here false k = k

  returned : (T : Tables) (seq : ℕ) (c : Saved) (cs : List Saved) → AllUnder T seq (c ∷ cs) → Nested (c ∷ cs) → Undoable (at_copy c cs)
  returned T seq c cs u n = record {
    sound = u.0.sound;
    under = (record { below = omega arith; undo = none_undone tx c.seq c.tables u.0.sound.each; sound = u.0.sound }, n.0);
    nested = n;
  }

  pub undoable_kept : Keeps tx Undoable
  undoable_kept = record {
    by_change = λ x stmt k q h. record {
      sound = kept_sound tx x.seq x.tables stmt k h.sound;
      under = all_weaker (Under x.tables x.seq) _ (after_change x.tables x.seq stmt k h.sound) x.saved h.under;
      nested = h.nested;
    };
    by_save = λ x name h. record { sound = h.sound; under = (itself name x.tables x.seq h.sound, h.under); nested = (h.under, h.nested) };
    by_return = λ x name c cs e h. returned x.tables x.seq c cs
        (subst (AllUnder x.tables x.seq) e (back_under x.tables x.seq name x.saved h.under))
        (subst Nested e (back_nested x.tables x.seq name x.saved h.nested));
  }

  -- going back, also by a name that no savepoint has, is undo from the counter after it
  going_back : (x : State) (saved : List Saved) → Undoable x → AllUnder x.tables x.seq saved → (rolled_back x saved).0.tables ≡ undone tx (rolled_back x saved).0.seq x.tables
  going_back x [] h u = sym (none_undone tx x.seq x.tables h.sound.each)
  going_back x (c ∷ cs) h u = sym u.0.undo

  pub goes_back_undone : (x : State) (name : List ℕ) → Undoable x → (rolls_back_to x name).0.tables ≡ undone tx (rolls_back_to x name).0.seq x.tables
  unfolding rolls_back_to
  goes_back_undone x name h = going_back x (back_to x.saved name) h (back_under x.tables x.seq name x.saved h.under)

pub script_undoable : (reads : Reading) (T : Tables) (tx : ℕ) (texts : List (List ℕ)) → Sound tx 0 T → Undoable tx (script reads true T tx texts).state
script_undoable reads T tx texts sound = script_keeps tx (Undoable tx) (undoable_kept tx) reads (start T) texts (record { sound = sound; under = tt; nested = tt })

pub copies_undone : (reads : Reading) (T : Tables) (tx : ℕ) (texts : List (List ℕ)) → Sound tx 0 T → AllByRecursion (λ c. undone tx c.seq (script reads true T tx texts).state.tables ≡ c.tables) (script reads true T tx texts).state.saved
copies_undone reads T tx texts sound =
    let x : State = (script reads true T tx texts).state in
    all_weaker (Under tx x.tables x.seq) (λ c. undone tx c.seq x.tables ≡ c.tables) (λ c u. u.undo) x.saved (script_undoable reads T tx texts sound).under

pub names_undone : (reads : Reading) (T : Tables) (tx : ℕ) (texts : List (List ℕ)) (name : List ℕ) → Sound tx 0 T → (rolls_back_to (script reads true T tx texts).state name).0.tables ≡ undone tx (rolls_back_to (script reads true T tx texts).state name).0.seq (script reads true T tx texts).state.tables
names_undone reads T tx texts name sound = goes_back_undone tx (script reads true T tx texts).state name (script_undoable reads T tx texts sound)

pub script_sound : (reads : Reading) (T : Tables) (tx : ℕ) (texts : List (List ℕ)) → Sound tx 0 T → Sound tx (script reads true T tx texts).state.seq (script reads true T tx texts).state.tables
script_sound reads T tx texts sound = (script_undoable reads T tx texts sound).sound

pub copies_sound : (reads : Reading) (T : Tables) (tx : ℕ) (texts : List (List ℕ)) → Sound tx 0 T → AllByRecursion (λ c. Sound tx c.seq c.tables) (script reads true T tx texts).state.saved
copies_sound reads T tx texts sound =
    let x : State = (script reads true T tx texts).state in
    all_weaker (Under tx x.tables x.seq) (λ c. Sound tx c.seq c.tables) (λ c u. u.sound) x.saved (script_undoable reads T tx texts sound).under
