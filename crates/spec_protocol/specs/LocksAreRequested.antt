-- Locks are wanted: who has a lock in the catalog has it for a statement of its script, or for the one under
-- way. In a table's cell it is so by what was asked for.
use Rattle.std.specs.Prelude.{ℕ, ◌≡◌, ◌⊎◌, true, List, Some}
use Rattle.sql_types.specs.declared.lock.Mode.TheVariants.{S}
use Rattle.spec_history.specs.Lists.{Some_of}
use Rattle.spec_history.specs.Real.{requests_catalog}
use Rattle.spec_history.specs.Transactions.{unfixed}
use Rattle.spec_protocol.specs.Server.{Server}
use Rattle.spec_protocol.specs.Cells.{catalog_at}
use Rattle.spec_protocol.specs.Contents.{Contents}
use Rattle.spec_protocol.specs.LocksCover.{HasLock, LookedFirst}
use Rattle.spec_protocol.specs.OpenOnes.{HasOpen}
use Rattle.spec_protocol.specs.Seats.{OpenTransaction, Session, SeatState}

-- some statement of the script wants the catalog, or the first one that visited it is under way
abbrev pub RequestsCatalog : Server → Session → OpenTransaction → Type 0
RequestsCatalog v x o = Some_of (λ l. requests_catalog true (v.reads l.0) ≡ Some S) o.script ⊎ LookedFirst x.place

-- so it is of each transaction that BEGIN opened and that has a lock there, until its end is fixed
abbrev pub LocksAreRequested : Server → Contents → List SeatState → Type 0
LocksAreRequested v c seats = (j : ℕ) (x : Session) (o : OpenTransaction) → HasOpen seats j x o → o.explicit ≡ true
    → o.end ≡ unfixed → HasLock c catalog_at o.id → RequestsCatalog v x o
