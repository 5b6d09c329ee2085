-- What the statements of a script want, and the starts and ends that it leaves.
use Rattle.std.specs.Prelude.{ℕ, Bool, true, false, if◌then◌else◌, List, [], ◌∷◌, ◌++◌, map, take, Option, Some, None}
use Rattle.sql_types.specs.declared.statement.Stmt.{Stmt}
use Rattle.sql_types.specs.declared.statement.Stmt.TheVariants as s
use Rattle.spec_model.specs.Catalog.{Defs, Tables}
use Rattle.spec_model.specs.ChangeSets.{TableChange, change_set}
use Rattle.spec_model.specs.Agreement.{LockRequests, requests_of}
use Rattle.spec_model.specs.Script.{Reading, State, start, text_step}

-- a text outside the grammar wants nothing
abbrev pub text_requests : Defs → Bool → Option Stmt → LockRequests
text_requests defs explicit None = record { catalog = None; cell = None }
text_requests defs explicit (Some stmt) = requests_of defs explicit stmt

-- a table statement: in a transaction that BEGIN opened, one that leaves the definitions
abbrev pub runs : Bool → Stmt → Bool
runs true (s.Create c) = false
runs true (s.Index c) = false
runs true (s.Alter a) = false
runs true (s.Drop name) = false
runs false (s.Create c) = true
runs false (s.Index c) = true
runs false (s.Alter a) = true
runs false (s.Drop name) = true
runs explicit (s.Change stmt) = true
runs explicit (s.Select q) = true
runs explicit _ = false

-- the starts and ends that a text makes
abbrev pub text_changes : Bool → Tables → Option Stmt → List TableChange
text_changes explicit T None = []
text_changes explicit T (Some stmt) = if runs explicit stmt then (change_set T stmt).changes else []

module _ (reads : Reading) where
  -- the wants of all texts
  abbrev pub script_requests : Defs → Bool → List (List ℕ) → List LockRequests
  script_requests defs explicit texts = map (λ t. text_requests defs explicit (reads t)) texts

  -- the starts and ends that stand after the texts, by their numbers: going back drops those from the counter
  -- on
  unfoldable pub changes_from : Bool → ℕ → State → List TableChange → List (List ℕ) → List TableChange
  changes_from explicit tx x changes [] = changes
  changes_from explicit tx x changes (t ∷ ts) =
      changes_from explicit tx (text_step reads explicit tx x t).0
      (take (text_step reads explicit tx x t).0.seq (changes ++ text_changes explicit x.tables (reads t))) ts

  abbrev pub script_changes : Bool → Tables → ℕ → List (List ℕ) → List TableChange
  script_changes explicit T tx texts = changes_from explicit tx (start T) [] texts
