-- The codes of refusals have two digits.
use Rattle.std.proofs.Common.{◌<◌, arith}
use Rattle.sql_value.specs.declared.refusal.Refusal.{Refusal}
use Rattle.sql_value.specs.declared.refusal.Refusal.TheVariants.{SyntaxError, NoSuchTable, NameConflict, NoSuchColumn, TypeMismatch, NullNotAllowed, DuplicateKey, NumberOutOfRange, ValueTooLong, AppendOnlyTable, ReadOnlyTable, KeyNotUpdatable, NoTransaction, AlreadyInTransaction, NoSuchSavepoint, LimitExceeded, ForbiddenInTransaction, ValueCountMismatch, NothingCommitted, Locked, NoMemory}
use Rattle.sql_value.specs.Refusal.{code_of}

pub code_small : (e : Refusal) → code_of e < 100
code_small SyntaxError = omega arith
code_small NoSuchTable = omega arith
code_small NameConflict = omega arith
code_small NoSuchColumn = omega arith
code_small TypeMismatch = omega arith
code_small NullNotAllowed = omega arith
code_small DuplicateKey = omega arith
code_small NumberOutOfRange = omega arith
code_small ValueTooLong = omega arith
code_small AppendOnlyTable = omega arith
code_small ReadOnlyTable = omega arith
code_small KeyNotUpdatable = omega arith
code_small NoTransaction = omega arith
code_small AlreadyInTransaction = omega arith
code_small NoSuchSavepoint = omega arith
code_small LimitExceeded = omega arith
code_small ForbiddenInTransaction = omega arith
code_small ValueCountMismatch = omega arith
code_small NothingCommitted = omega arith
code_small (Locked holder) = omega arith
code_small NoMemory = omega arith
