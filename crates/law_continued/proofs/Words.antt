-- BEGIN and COMMIT as they are printed are read as these.
use Rattle.std.proofs.Common.{◌≡◌, Bool, true, Option, Some, None, refl, ap, ◌∙◌}
use Rattle.std.specs.Prelude.{if◌then◌else◌, option_and_then}
use Rattle.sql_types.specs.declared.journal.TheConstants.{JOURNAL_VERSION}
use Rattle.sql_types.specs.declared.statement.Stmt.{Stmt}
use Rattle.sql_types.specs.declared.statement.Stmt.TheVariants as stmt
use Rattle.sql_types.specs.Versions.{has_statement}
use Rattle.spec_history.specs.Lists.{Text}
use Rattle.spec_syntax.specs.Parsed.{IsParsed}
use Rattle.spec_syntax.specs.PrintedStmt.{printed}
use Rattle.spec_syntax.specs.Text.{grammar_statement_of, in_version, reading_of, statement_of}
use Rattle.law_retold.specs.Retold.{AreWords, Words}

in_this : (text : Text) (s : Stmt) → grammar_statement_of text ≡ Some s → has_statement JOURNAL_VERSION s ≡ true → statement_of text ≡ Some s
unfolding reading_of
in_this text s is has = ap (λ (o : Option Stmt). option_and_then (in_version JOURNAL_VERSION) o) is
    ∙ ap (λ (b : Bool). if b then Some s else None) has

abbrev words_of : Text → Words
words_of name = record { begin_text = printed stmt.Begin; commit_text = printed stmt.Commit; name = name }

are_words : ((s : Stmt) → IsParsed s → grammar_statement_of (printed s) ≡ Some s) → (name : Text) → AreWords statement_of (words_of name)
are_words read name = record {
  begins = in_this (printed stmt.Begin) stmt.Begin (read stmt.Begin tt) refl;
  commits = in_this (printed stmt.Commit) stmt.Commit (read stmt.Commit tt) refl;
}

pub words : ((s : Stmt) → IsParsed s → grammar_statement_of (printed s) ≡ Some s) → (name : Text) → (c : Words) × AreWords statement_of c × (c.name ≡ name)
words read name = (words_of name, are_words read name, refl)
