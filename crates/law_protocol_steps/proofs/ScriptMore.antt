-- A script with one text more, and what the texts do that need no cell.
use Rattle.std.proofs.Common.{◌≡◌, ℕ, ◌<◌, Bool, true, List, [], ◌∷◌, ◌++◌, length, Option, Some, None, refl, ap, arith}
use Rattle.std.proofs.lemmas.Bool.{lt-ltb, le-ltb}
use Rattle.sql_value.specs.declared.refusal.Refusal.{Refusal}
use Rattle.sql_value.specs.declared.refusal.Refusal.TheVariants.{NoSuchSavepoint, LimitExceeded}
use Rattle.sql_types.specs.declared.reply.Reply.{Reply}
use Rattle.sql_types.specs.declared.reply.Reply.TheVariants as reply
use Rattle.sql_types.specs.declared.statement.Stmt.{Stmt}
use Rattle.sql_types.specs.declared.statement.Stmt.TheVariants as stmt
use Rattle.spec_model.specs.Limits.{max_savepoints}
use Rattle.spec_model.specs.Script.{Reading, Saved, State, saves, back_to, rolled_back, rolls_back_to, by_statement, text_step, script_from}
use Rattle.spec_protocol.specs.Answering.{refused_inside}

module _ (reads : Reading) (explicit : Bool) (tx : ℕ) where
  pub last_state : (x : State) (ts : List (List ℕ)) (t : List ℕ) → (script_from reads explicit tx x (ts ++ t ∷ [])).state ≡ (text_step reads explicit tx (script_from reads explicit tx x ts).state t).0
  unfolding script_from
  last_state x [] t = refl
  last_state x (u ∷ ts) t = last_state (text_step reads explicit tx x u).0 ts t

  pub last_reply : (x : State) (ts : List (List ℕ)) (t : List ℕ) → (script_from reads explicit tx x (ts ++ t ∷ [])).replies ≡ (script_from reads explicit tx x ts).replies ++ (text_step reads explicit tx (script_from reads explicit tx x ts).state t).1 ∷ []
  unfolding script_from
  last_reply x [] t = refl
  last_reply x (u ∷ ts) t = ap (λ (l : List Reply). (text_step reads explicit tx x u).1 ∷ l) (last_reply (text_step reads explicit tx x u).0 ts t)

  pub step_is : (x : State) (t : List ℕ) → text_step reads explicit tx x t ≡ by_statement explicit tx x (reads t)
  unfolding text_step
  step_is x t = refl

pub step_refused : (tx : ℕ) (x : State) (o : Option Stmt) (e : Refusal) → refused_inside o ≡ Some e → by_statement true tx x o ≡ (x, reply.Refused e)
step_refused tx x None e f = cc
step_refused tx x (Some (stmt.Create c)) e f = cc
step_refused tx x (Some (stmt.Index c)) e f = cc
step_refused tx x (Some (stmt.Alter a)) e f = cc
step_refused tx x (Some (stmt.Drop name)) e f = cc
step_refused tx x (Some stmt.Begin) e f = cc
step_refused tx x (Some stmt.Digest) e f = cc
step_refused tx x (Some stmt.Image) e f = cc
step_refused tx x (Some (stmt.Change c)) e f = cc
step_refused tx x (Some (stmt.Select c)) e f = cc
step_refused tx x (Some stmt.Commit) e f = cc
step_refused tx x (Some (stmt.Save name)) e f = cc
step_refused tx x (Some (stmt.Rollback name)) e f = cc

abbrev pub with_saved : State → List ℕ → State
with_saved x name = record { tables = x.tables; seq = x.seq; saved = record { name = name; tables = x.tables; seq = x.seq } ∷ x.saved }

pub saves_one : (x : State) (name : List ℕ) → length x.saved < max_savepoints → saves x name ≡ (with_saved x name, reply.Saved)
unfolding saves
saves_one x name l = rw (lt-ltb (length x.saved) max_savepoints l) refl

pub saves_none : (x : State) (name : List ℕ) → length x.saved ≡ max_savepoints → saves x name ≡ (x, reply.Refused LimitExceeded)
unfolding saves
saves_none x name e = rw (le-ltb (length x.saved) max_savepoints (omega (arith, e))) refl

pub back_one : (x : State) (name : List ℕ) (c : Saved) (cs : List Saved) → back_to x.saved name ≡ c ∷ cs → rolls_back_to x name ≡ (record { tables = c.tables; seq = c.seq; saved = c ∷ cs }, reply.Back)
unfolding rolls_back_to
back_one x name c cs e = ap (rolled_back x) e

pub back_none : (x : State) (name : List ℕ) → back_to x.saved name ≡ [] → rolls_back_to x name ≡ (x, reply.Refused NoSuchSavepoint)
unfolding rolls_back_to
back_none x name e = ap (rolled_back x) e
