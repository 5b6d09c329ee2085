-- Versions of journals, and which statements each of them has.
use Rattle.std.specs.Prelude.{ℕ, nat_le, ◌==◌, ◌||◌, Bool, true}
use Rattle.sql_types.specs.declared.statement.Stmt.{Stmt}
use Rattle.sql_types.specs.declared.statement.Stmt.TheVariants as s

-- the versions that are read; a journal is written in its own
abbrev pub is_version : ℕ → Bool
is_version n = n == 1 || n == 2

-- ALTER TABLE and DROP TABLE came with version 2
abbrev pub has_statement : ℕ → Stmt → Bool
has_statement version (s.Alter a) = nat_le 2 version
has_statement version (s.Drop name) = nat_le 2 version
has_statement version _ = true
