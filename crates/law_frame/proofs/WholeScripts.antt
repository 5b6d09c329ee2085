-- What each statement keeps is kept by a whole script, and by the copy of each savepoint, whether BEGIN opened it or not.
use Rattle.std.proofs.Common.{ℕ, Bool, true, false, List, [], ◌∷◌, Option, Some, None}
use Rattle.sql_types.specs.declared.statement.Stmt.{Stmt}
use Rattle.sql_types.specs.declared.statement.Stmt.TheVariants as s
use Rattle.spec_model.specs.Catalog.{Tables}
use Rattle.spec_model.specs.Effect.{effect}
use Rattle.spec_model.specs.Script.{Reading, State, alone, by_statement, start, text_step, script_from, script}
use Rattle.law_frame.proofs.StepByStep.{Any, Throughout, throughout, script_keeps}

module _ (tx : ℕ) (A : ℕ → Tables → Type 0)
    (step : (seq : ℕ) (T : Tables) (stmt : Stmt) → A seq T → A (effect T tx seq stmt).seq (effect T tx seq stmt).tables) where
  alone_keeps : (x : State) (stmt : Stmt) → Throughout A x → Throughout A (alone tx x stmt).0
  alone_keeps x (s.Create c) h = (step x.seq x.tables (s.Create c) h.0, h.1)
  alone_keeps x (s.Index c) h = (step x.seq x.tables (s.Index c) h.0, h.1)
  alone_keeps x (s.Alter a) h = (step x.seq x.tables (s.Alter a) h.0, h.1)
  alone_keeps x (s.Drop name) h = (step x.seq x.tables (s.Drop name) h.0, h.1)
  alone_keeps x (s.Change stmt) h = (step x.seq x.tables (s.Change stmt) h.0, h.1)
  alone_keeps x (s.Select q) h = (step x.seq x.tables (s.Select q) h.0, h.1)
  alone_keeps x s.Begin h = h
  alone_keeps x s.Commit h = h
  alone_keeps x (s.Save name) h = h
  alone_keeps x (s.Rollback name) h = h
  alone_keeps x s.Digest h = h
  alone_keeps x s.Image h = h

  text_keeps : (x : State) (o : Option Stmt) → Throughout A x → Throughout A (by_statement false tx x o).0
  text_keeps x None h = h
  text_keeps x (Some stmt) h = alone_keeps x stmt h

  texts_keep : (reads : Reading) (x : State) (texts : List (List ℕ)) → Throughout A x → Throughout A (script_from reads false tx x texts).state
  unfolding script_from text_step
  texts_keep reads x [] h = h
  texts_keep reads x (t ∷ ts) h = texts_keep reads (text_step reads false tx x t).0 ts (text_keeps x (reads t) h)

  pub whole_script : (reads : Reading) (explicit : Bool) (T : Tables) (texts : List (List ℕ)) → A 0 T → Throughout A (script reads explicit T tx texts).state
  whole_script reads true T texts h =
      script_keeps tx (Throughout A) (throughout A tx Any (λ m U stmt k q a. step m U stmt a)) reads (start T) texts (h, tt)
  whole_script reads false T texts h = texts_keep reads (start T) texts (h, tt)
