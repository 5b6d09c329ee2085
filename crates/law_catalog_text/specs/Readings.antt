-- Readings of texts by the grammar.
use Rattle.std.specs.Prelude.{◌≡◌, ℕ, List, Some}
use Rattle.sql_types.specs.declared.statement.Stmt.{Stmt}
use Rattle.spec_grammar.specs.Statements.{IsStatement}
use Rattle.spec_model.specs.Script.{Reading}

-- each statement that it reads is one of the grammar; it may read fewer
abbrev pub KeepsToTheGrammar : Reading → Type 0
KeepsToTheGrammar reads = (text : List ℕ) (stmt : Stmt) → reads text ≡ Some stmt → IsStatement text stmt
