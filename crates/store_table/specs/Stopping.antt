-- How a transaction is stopped that doesn't get its locks.
use Rattle.std.specs.Prelude.{Bool, Result, Ok, Err}
use Rattle.store_locks.specs.declared.lock_err.LockErr.{LockErr}
use Rattle.store_locks.specs.declared.lock_err.LockErr.TheVariants as lock
use Rattle.store_table.specs.declared.stop.TableErr.{TableErr}
use Rattle.store_table.specs.declared.stop.TableErr.TheVariants.{Locked, Memory}

-- by the holder, or for want of memory
abbrev pub table_err_of : LockErr → TableErr
table_err_of (lock.Locked holder item mode) = Locked holder
table_err_of lock.Memory = Memory

abbrev pub granted_or_err : Result Bool LockErr → Result (Unit {0}) TableErr
granted_or_err (Ok fresh) = Ok tt
granted_or_err (Err e) = Err (table_err_of e)
