-- Running a script again, one statement after another.
use Rattle.std.proofs.Common.{◌≡◌, ◌≢◌, ℕ, ◌+◌, refl, sym, ap, ◌∙◌, Bool, true, false, List, [], ◌∷◌, drop, length, Option, Some, None}
use Rattle.std.specs.Prelude.{if◌then◌else◌}
use Rattle.std.specs.Str.{bytes_eq}
use Rattle.sql_types.specs.declared.statement.Stmt.{Stmt}
use Rattle.spec_model.specs.Events.{all_events}
use Rattle.spec_model.specs.Journals.{Line}
use Rattle.spec_model.specs.Replies.{reply_text}
use Rattle.spec_model.specs.Catalog.{Tables}
use Rattle.spec_model.specs.Script.{Reading, State, ScriptEnd, start, with_reply, text_step, script_from}
use Rattle.sql_reference.specs.Again.{goes_on}
use Rattle.sql_reference.specs.Machine.{Running, Machine, begun, step_of, moved}
use Rattle.sql_reference.specs.RunEnd.{first_difference, left_by, judged}
use Rattle.sql_reference.specs.declared.serial_machine.ReplayAgreement.TheVariants.{Differs}
use Rattle.sql_reference.proofs.Moves.{stays}

-- a step doesn't end a script
pub still_begun : (old new : Machine) (stmt : Option Stmt) → old.script ≢ None → ((x : Running) → old.script ≡ Some x → new ≡ moved old x (step_of x stmt).0) → new.script ≢ None
still_begun old new stmt h step = here old.script refl h
  where
    here : (o : Option Running) → old.script ≡ o → o ≢ None → new.script ≢ None
    here None e k = absurd (k refl)
    here (Some x) e k = λ none. (let to : new ≡ moved old x (step_of x stmt).0 = step x e in cc)

-- the script in this state
abbrev pub at : Running → State → Running
at x state = record { tx = x.tx; explicit = x.explicit; state = state }

module _ (reads : Reading) where
  pub goes_first : (x : Running) (line : Line) (rest : List Line) → goes_on reads x (line ∷ rest) ≡ with_reply (step_of x (reads line.0)).1 (goes_on reads (at x (step_of x (reads line.0)).0) rest)
  unfolding script_from text_step
  goes_first x line rest = refl

  pub goes_nowhere : (x : Running) → goes_on reads x [] ≡ record { state = x.state; replies = [] }
  unfolding script_from
  goes_nowhere x = refl

  -- the first n statements agree, and led here from the script x of the machine m
  pub record Along (m : Machine) (x : Running) (lines : List Line) (n : ℕ) (now : Machine) : Type 0 where
    pub state : State
    pub machine : now ≡ moved m x state
    pub difference : first_difference n (drop n lines) (goes_on reads (at x state) (drop n lines)).replies ≡ first_difference 0 lines (goes_on reads x lines).replies
    pub end : (goes_on reads (at x state) (drop n lines)).state ≡ (goes_on reads x lines).state

  pub sets_out : (m : Machine) (x : Running) (lines : List Line) → m.script ≡ Some x → Along m x lines 0 m
  sets_out m x lines e = record { state = x.state; machine = sym (stays m x e); difference = refl; end = refl }

  -- the next statement and its reply
  abbrev pub next_reply : Running → State → Line → List ℕ
  next_reply x state line = reply_text (step_of (at x state) (reads line.0)).1

  abbrev pub next_state : Running → State → Line → State
  next_state x state line = (step_of (at x state) (reads line.0)).0

  module _ (m : Machine) (x : Running) (lines : List Line) (n : ℕ) (now : Machine) (a : Along m x lines n now) where
    pub begun_here : now.script ≡ Some (at x a.state)
    begun_here = rw a.machine refl

    -- all statements agree
    pub all_agree : drop n lines ≡ [] → first_difference 0 lines (goes_on reads x lines).replies ≡ None
    all_agree e = sym a.difference ∙ rw e refl

    pub all_went : drop n lines ≡ [] → now ≡ moved m x (goes_on reads x lines).state
    all_went e = a.machine ∙ ap (moved m x) (sym (rw e (ap (λ (o : ScriptEnd). o.state) (goes_nowhere (at x a.state)))) ∙ a.end)

    module _ (line : Line) (rest : List Line) (e : drop n lines ≡ line ∷ rest) where
      differs_by : (b : Bool) → bytes_eq line.1 (next_reply x a.state line) ≡ b
          → first_difference n (line ∷ rest) (goes_on reads (at x a.state) (line ∷ rest)).replies ≡ (if b then first_difference (n + 1) rest (goes_on reads (at x (next_state x a.state line)) rest).replies else Some n)
      differs_by b k = rw (goes_first (at x a.state) line rest) (rw k refl)

      pub first_differs : bytes_eq line.1 (next_reply x a.state line) ≡ false → first_difference 0 lines (goes_on reads x lines).replies ≡ Some n
      first_differs k = sym a.difference ∙ rw e (differs_by false k)

      pub moves_along : (new : Machine) → new ≡ moved now (at x a.state) (next_state x a.state line) → bytes_eq line.1 (next_reply x a.state line) ≡ true → drop (n + 1) lines ≡ rest → Along m x lines (n + 1) new
      moves_along new to k f = record {
        state = next_state x a.state line;
        machine = to ∙ rw a.machine refl;
        difference = rw f (sym (differs_by true k) ∙ ap (λ (l : List Line). first_difference n l (goes_on reads (at x a.state) l).replies) (sym e) ∙ a.difference);
        end = rw f (sym (ap (λ (o : ScriptEnd). o.state) (goes_first (at x a.state) line rest)) ∙ ap (λ (l : List Line). (goes_on reads (at x a.state) l).state) (sym e) ∙ a.end);
      }

-- ---- what it comes to

pub none_else : (o : Option ℕ) → ((n : ℕ) → o ≡ Some n → ⊥) → o ≡ None
none_else None h = refl
none_else (Some n) h = absurd (h n refl)

module _ (id : ℕ) (lines : List Line) (o : ScriptEnd) where
  pub judged_differing : (n : ℕ) → first_difference 0 lines o.replies ≡ Some n → judged id lines o ≡ Differs n
  judged_differing n e = rw e refl

  pub judged_ended : first_difference 0 lines o.replies ≡ None → judged id lines o ≡ left_by (length lines) (all_events id o.state.tables)
  judged_ended e = rw e refl

-- ---- a script from its beginning

abbrev pub newly : ℕ → Bool → Tables → Running
newly tx explicit tables = record { tx = tx; explicit = explicit; state = start tables }

pub begun_newly : (m : Machine) (tx : ℕ) (explicit : Bool) (tables : Tables) → m ≡ begun tx explicit tables → m.script ≡ Some (newly tx explicit tables)
begun_newly m tx explicit tables e = rw e refl

pub moved_on : (m old : Machine) (x : Running) (state : State) → m ≡ moved old x state → m.script ≡ Some (at x state)
moved_on m old x state e = rw e refl

pub some_script : (m : Machine) (x : Running) → m.script ≡ Some x → m.script ≢ None
some_script m x e none = (let no : Some x ≡ None = sym e ∙ none in cc)
