-- How a transaction is refused that doesn't get its locks.
use Rattle.std.specs.Prelude.{Bool, Result, Ok, Err}
use Rattle.sql_value.specs.declared.refusal.Refusal.{Refusal}
use Rattle.sql_value.specs.declared.refusal.Refusal.TheVariants as refusal
use Rattle.store_locks.specs.declared.lock_err.LockErr.{LockErr}
use Rattle.store_locks.specs.declared.lock_err.LockErr.TheVariants.{Locked, Memory}

-- by the holder, or for want of memory
abbrev pub refusal_of : LockErr → Refusal
refusal_of (Locked holder item mode) = refusal.Locked holder
refusal_of Memory = refusal.NoMemory

abbrev pub or_refusal : Result Bool LockErr → Result Bool Refusal
or_refusal (Ok fresh) = Ok fresh
or_refusal (Err e) = Err (refusal_of e)
