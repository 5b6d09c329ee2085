-- Which texts are which statements.
use Rattle.std.specs.Prelude.{ℕ, if◌then◌else◌, List, map, slice_range, Option, Some, None, option_and_then, Ok, Err}
use Rattle.sql_lex.specs.declared.token.Token.{Token}
use Rattle.sql_lex.specs.Cut.{Scan, tokens_of}
use Rattle.sql_types.specs.declared.statement.Stmt.{Stmt}
use Rattle.sql_types.specs.declared.journal.TheConstants.{JOURNAL_VERSION}
use Rattle.sql_types.specs.Versions.{has_statement}
use Rattle.spec_syntax.specs.Tags.{tag_of}
use Rattle.spec_syntax.specs.Input.{Sym}
use Rattle.spec_syntax.specs.Stmt.{statement_of_tokens}

abbrev pub text_of : List ℕ → Token → List ℕ
text_of text t = slice_range text t.start t.end

-- what a token of a text is to the grammar, and how it is written
unfoldable pub sym_of : List ℕ → Token → Sym
sym_of text t = (tag_of t.kind (text_of text t), text_of text t)

abbrev pub of_scan : List ℕ → Scan → Option Stmt
of_scan text (Ok ts) = statement_of_tokens (map (sym_of text) ts)
of_scan text (Err at) = None

-- the statement that a text is by the grammar; none for a text outside it
unfoldable pub grammar_statement_of : List ℕ → Option Stmt
grammar_statement_of text = of_scan text (tokens_of text)

-- ---- versions of journals

-- the statement, if journals of the version have it
abbrev pub in_version : ℕ → Stmt → Option Stmt
in_version version s = if has_statement version s then Some s else None

-- the statement that a text is in a journal of the version
unfoldable pub reading_of : ℕ → List ℕ → Option Stmt
reading_of version text = option_and_then (in_version version) (grammar_statement_of text)

-- the statement that a text is where a server runs
abbrev pub statement_of : List ℕ → Option Stmt
statement_of = reading_of JOURNAL_VERSION
