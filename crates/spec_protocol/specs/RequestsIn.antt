-- What a statement wants in one cell.
use Rattle.std.specs.Prelude.{ℕ, ◌≡◌, ◌==◌, ◌++◌, Bool, true, if◌then◌else◌, List, [], ◌∷◌, Option, Some, None}
use Rattle.sql_types.specs.declared.lock.Mode.{Mode}
use Rattle.sql_types.specs.declared.lock.Hold.{Hold}
use Rattle.sql_types.specs.declared.lock.LockRequest.{LockRequest}
use Rattle.spec_model.specs.Catalog.{Defs}
use Rattle.spec_model.specs.Locks.{CellRequests, whole, same_item}
use Rattle.spec_model.specs.Agreement.{LockRequests}
use Rattle.spec_model.specs.ScriptRequests.{text_requests}
use Rattle.spec_history.specs.Lists.{Text, In}
use Rattle.spec_protocol.specs.Server.{Server}
use Rattle.spec_protocol.specs.Cells.{catalog_at, cell_of}

abbrev pub of_catalog : Option Mode → List LockRequest
of_catalog None = []
of_catalog (Some mode) = whole mode ∷ []

abbrev pub of_cell : ℕ → CellRequests → List LockRequest
of_cell i None = []
of_cell i (Some c) = if cell_of c.0 == i then c.1 else []

abbrev pub requests_at : ℕ → LockRequests → List LockRequest
requests_at i w = (if i == catalog_at then of_catalog w.catalog else []) ++ of_cell i w.cell

-- the wants of a text in cell i, over these definitions
abbrev pub requests_in : Server → Defs → Bool → ℕ → Text → List LockRequest
requests_in v defs explicit i text = requests_at i (text_requests defs explicit (v.reads text))

-- the transaction has this want among these locks
pub record Holds (holds : List Hold) (id : ℕ) (w : LockRequest) : Type 0 where
  pub hold : Hold
  pub has : In hold holds
  pub mine : hold.tx ≡ id
  pub item : same_item hold.request.item w.item ≡ true
  pub mode : hold.request.mode ≡ w.mode
