-- Scripts keep what is kept, and so does each savepoint's copy.
use Rattle.std.proofs.Common.{ℕ, Bool, List}
use Rattle.sql_types.specs.declared.statement.Stmt.{Stmt}
use Rattle.spec_model.specs.Catalog.{Tables}
use Rattle.spec_model.specs.Effect.{effect}
use Rattle.spec_model.specs.Script.{Reading, State, script}
use Rattle.law_frame.proofs.StepByStep.{Throughout}
use Rattle.law_frame.proofs.WholeScripts.{whole_script}
use Rattle.law_journal.specs.Kept.{Kept}
use Rattle.law_journal.specs.Described.{Described}
use Rattle.law_journal.proofs.Keeping.{statement_kept, statement_described}

module _ (place : ℕ → ℕ) (tx : ℕ) where
  abbrev pub Both : ℕ → Tables → Type 0
  Both seq T = Kept place tx seq T × Described T

  effect_both : (seq : ℕ) (T : Tables) (stmt : Stmt) → Both seq T → Both (effect T tx seq stmt).seq (effect T tx seq stmt).tables
  effect_both seq T stmt h = (statement_kept place tx seq T stmt h.0 h.1, statement_described place tx seq T stmt h.0.sound.ids h.1)

  abbrev pub AllBoth : State → Type 0
  AllBoth x = Throughout Both x

  pub script_both : (reads : Reading) (explicit : Bool) (T : Tables) (texts : List (List ℕ)) → Both 0 T → AllBoth (script reads explicit T tx texts).state
  script_both reads explicit T texts h = whole_script tx Both effect_both reads explicit T texts h
