-- What a transaction that asks for locks is told.
use Rattle.std.specs.Prelude.{◌≡◌, ◌≢◌, ℕ, Bool, not, List, Option, Some, None, Result, Ok, Err}
use Rattle.sql_types.specs.declared.lock.LockRequest.{LockRequest}
use Rattle.sql_types.specs.declared.lock.Hold.{Hold}
use Rattle.store_locks.specs.declared.lock_err.LockErr.{LockErr}
use Rattle.store_locks.specs.declared.lock_err.LockErr.TheVariants.{Locked, Memory}
use Rattle.spec_model.specs.Holds.{holds_any}
use Rattle.spec_model.specs.InTheWay.{Conflict, first_conflict}

-- the conflict as an error, or else an answer
abbrev pub refused_or : {A : Type 0} → Option Conflict → A → Result A LockErr
refused_or (Some c) a = Err (Locked c.0.0 c.1 c.0.1)
refused_or None a = Ok a

-- the first conflict, or else whether the transaction held nothing before
unfoldable pub asked : List Hold → ℕ → List LockRequest → Result Bool LockErr
asked holds tx requests = refused_or (first_conflict holds tx requests) (not (holds_any holds tx))

-- the result is what is meant, or there is no memory
abbrev pub IsMeant : {A : Type 0} → Result A LockErr → Result A LockErr → Type 0
IsMeant meant (Ok a) = meant ≡ Ok a
IsMeant meant (Err e) = e ≢ Memory → meant ≡ Err e
