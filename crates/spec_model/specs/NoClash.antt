-- A statement beside a script of another transaction.
use Rattle.std.specs.Prelude.{Bool, false, Option, Some, None}
use Rattle.sql_types.specs.declared.statement.Stmt.{Stmt}
use Rattle.spec_model.specs.Catalog.{Defs}
use Rattle.spec_model.specs.Locks.{clash}

-- the statement clashes with that of a text
abbrev pub text_clash : Defs → Bool → Stmt → Bool → Option Stmt → Bool
text_clash defs a_opened a b_opened None = false
text_clash defs a_opened a b_opened (Some b) = clash defs a_opened a b_opened b
