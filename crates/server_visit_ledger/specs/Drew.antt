-- The transaction that a seat gets with an id.
use Rattle.std.specs.Prelude.{ℕ, ◌≡◌, ◌<◌, Bool, true, List, [], length, vec_capacity, Option, Some, None}
use Rattle.server_session.specs.LedgerVisits.{drawn}
use Rattle.server_session.specs.Moves.{new_transaction}
use Rattle.store_ledger.specs.HashedCell.{HashedCell}
use Rattle.server_session.specs.Sits.{IsRunning}
use Rattle.server_session.specs.declared.running.Running.{Running}

-- it has done nothing, and there is room for its first statement where BEGIN opened it
pub record IsNew {H : Type 0} (digest : H → List ℕ → List ℕ) (h : H) (id : ℕ) (explicit : Bool)
    (r : Running H) : Type 0 where
  pub runs : IsRunning digest h r (new_transaction id explicit)
  pub script : r.script.items ≡ []
  pub room : explicit ≡ true → length r.script.items < vec_capacity r.script

-- the next id was drawn for it, or there is none
abbrev pub Drew : {H : Type 0} → (H → List ℕ → List ℕ) → H → Bool → HashedCell → HashedCell
    → Option (Running H) → Type 0
Drew digest h explicit c d (Some r) = (d.cell ≡ drawn c.cell) × (d.hash ≡ c.hash)
    × IsNew digest h c.cell.next explicit r
Drew digest h explicit c d None = d ≡ c
