-- What is read of a text in a journal of a version.
use Rattle.std.proofs.Common.{◌≡◌, ◌∙◌, ℕ, Bool, true, false, cond, List, Option, Some, None, refl, ap, subst}
use Rattle.std.specs.Prelude.{option_and_then}
use Rattle.sql_types.specs.declared.statement.Stmt.{Stmt}
use Rattle.sql_types.specs.Versions.{has_statement}
use Rattle.spec_syntax.specs.Text.{grammar_statement_of, in_version, reading_of}
use Rattle.law_syntax.proofs.Steps.{the_same}

kept_by : (b : Bool) (x s : Stmt) → cond b (Some x) None ≡ Some s → (b ≡ true) × (x ≡ s)
kept_by true x s e = (refl, the_same e)
kept_by false x s e = absurd (cc)

kept : (version : ℕ) (o : Option Stmt) (s : Stmt) → option_and_then (in_version version) o ≡ Some s → (o ≡ Some s) × (has_statement version s ≡ true)
kept version None s e = absurd (cc)
kept version (Some x) s e =
    let k = kept_by (has_statement version x) x s e in
    (ap Some k.1, subst (λ z. has_statement version z ≡ true) k.1 k.0)

-- it is the text's by the grammar, and journals of the version have it
pub read_in : (version : ℕ) (text : List ℕ) (s : Stmt) → reading_of version text ≡ Some s → (grammar_statement_of text ≡ Some s) × (has_statement version s ≡ true)
unfolding reading_of
read_in version text s e = kept version (grammar_statement_of text) s e

-- what is the text's by the grammar, and what journals of the version have, is read
pub reads_in : (version : ℕ) (text : List ℕ) (s : Stmt) → grammar_statement_of text ≡ Some s → has_statement version s ≡ true → reading_of version text ≡ Some s
unfolding reading_of
reads_in version text s e had = ap (option_and_then (in_version version)) e ∙ ap (λ b. cond b (Some s) None) had
