-- The codes of refusals.
use Rattle.std.specs.Prelude.{ℕ}
use Rattle.sql_value.specs.declared.refusal.Refusal.{Refusal}
use Rattle.sql_value.specs.declared.refusal.Refusal.TheVariants.{SyntaxError, NoSuchTable, NameConflict, NoSuchColumn, TypeMismatch, NullNotAllowed, DuplicateKey, NumberOutOfRange, ValueTooLong, AppendOnlyTable, ReadOnlyTable, KeyNotUpdatable, NoTransaction, AlreadyInTransaction, NoSuchSavepoint, LimitExceeded, ForbiddenInTransaction, ValueCountMismatch, NothingCommitted, Locked, NoMemory}
use Rattle.sql_value.specs.declared.refusal.ValueErr.{ValueErr}
use Rattle.sql_value.specs.declared.refusal.ValueErr.TheVariants.{Mismatch, OutOfRange, TooLong}

-- the number of a refusal's code
abbrev pub code_of : Refusal → ℕ
code_of SyntaxError = 1
code_of NoSuchTable = 2
code_of NameConflict = 3
code_of NoSuchColumn = 4
code_of TypeMismatch = 5
code_of NullNotAllowed = 6
code_of DuplicateKey = 7
code_of NumberOutOfRange = 8
code_of ValueTooLong = 9
code_of AppendOnlyTable = 10
code_of ReadOnlyTable = 11
code_of KeyNotUpdatable = 12
code_of NoTransaction = 13
code_of AlreadyInTransaction = 14
code_of NoSuchSavepoint = 15
code_of LimitExceeded = 16
code_of ForbiddenInTransaction = 17
code_of ValueCountMismatch = 18
code_of NothingCommitted = 19
code_of (Locked holder) = 20
code_of NoMemory = 30

-- the refusal of a statement one of whose values a column doesn't take
abbrev pub refusal_of : ValueErr → Refusal
refusal_of Mismatch = TypeMismatch
refusal_of OutOfRange = NumberOutOfRange
refusal_of TooLong = ValueTooLong
