-- Locks were asked for: each lock is a want of a statement of its transaction.
use Rattle.std.specs.Prelude.{ℕ, zero, suc, ◌≡◌, Bool, true, List, Some}
use Rattle.sql_types.specs.declared.lock.Hold.{Hold}
use Rattle.sql_types.specs.declared.lock.LockRequest.{LockRequest}
use Rattle.spec_model.specs.Catalog.{Defs, defs_of}
use Rattle.spec_history.specs.Lists.{Text, In}
use Rattle.spec_history.specs.Real.{requests_catalog, requests_cell}
use Rattle.spec_history.specs.Acts.{Act}
use Rattle.spec_history.specs.Sessions.{SessionTransaction, SessionState}
use Rattle.spec_history.specs.Worlds.{first, run}
use Rattle.spec_protocol.specs.Server.{Server}
use Rattle.spec_protocol.specs.Contents.{Contents, Known}
use Rattle.spec_protocol.specs.RequestsIn.{of_catalog, of_cell}

-- the open transaction with this id, which BEGIN opened or not, asked for the wants of this text: with true,
-- those in its table's cell too
pub record WasAsked (at : ℕ → SessionState) (id : ℕ) (explicit : Bool) (a : Text × Bool) : Type 0 where
  pub session : ℕ
  pub transaction : SessionTransaction
  pub has : (at session).transaction ≡ Some transaction
  pub is : transaction.id ≡ id
  pub by_begin : transaction.explicit ≡ explicit
  pub asked : In a transaction.asked

-- among what was asked for is this want in cell i, over these definitions
abbrev pub IsRequested : Server → Defs → Bool → ℕ → Text × Bool → LockRequest → Type 0
IsRequested v defs explicit zero a request = In request (of_catalog (requests_catalog explicit (v.reads a.0)))
IsRequested v defs explicit (suc i) a request =
    (a.1 ≡ true) × In request (of_cell (suc i) (requests_cell defs (v.reads a.0)))

-- a lock in cell i
pub record IsAskedFor (v : Server) (at : ℕ → SessionState) (defs : Defs) (i : ℕ) (lock : Hold) : Type 0 where
  pub explicit : Bool
  pub statement : Text × Bool
  pub asked : WasAsked at lock.tx explicit statement
  pub wanted : IsRequested v defs explicit i statement lock.request

-- each lock is a want, over the definitions of the journal, of a statement that its transaction asked for
abbrev pub LocksWereAsked : Server → List Act → Contents → Known → Type 0
LocksWereAsked v h c k = (i : ℕ) (lock : Hold) → In lock (c.holds i)
    → IsAskedFor v (run first h).at (defs_of k.tables) i lock
