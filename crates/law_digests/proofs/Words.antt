-- How many bytes a statement has at least that issues a digest.
use Rattle.std.proofs.Common.{◌≡◌, ℕ, zero, suc, ◌+◌, ◌-◌, ◌≤◌, Bool, true, false, cond, List, [], ◌∷◌, ◌++◌, map, length, drop, Option, Some, None, Ok, Err, refl, ap, subst, codes, arith, length-take}
use Rattle.std.proofs.lemmas.List.{length-map}
use Rattle.std.specs.Char.{to_ascii_lowercase}
use Rattle.std.specs.Str.{str_to_ascii_lowercase}
use Rattle.std.proofs.lemmas.Slice.Eq.{bytes_eq-Decides}
use Rattle.sql_lex.specs.declared.token.Kind.{Kind}
use Rattle.sql_lex.specs.declared.token.Token.{Token}
use Rattle.sql_lex.specs.Longest.{longest, longest_within, or_else, with_length}
use Rattle.sql_lex.specs.Cut.{Scan, scan, tokens_of, with_front, goes_on, is_blank, begins_comment}
use Rattle.sql_types.specs.declared.statement.Stmt.{Stmt}
use Rattle.sql_types.specs.declared.statement.Stmt.TheVariants as stmt
use Rattle.spec_grammar.specs.Tokens.{Lexemes, Word, word}
use Rattle.spec_grammar.specs.Statements as g
use Rattle.spec_grammar.specs.Statements.{IsExec, IsBody, IsStmt, IsStatement, written}

-- ---- lexemes

-- how many bytes some lexemes have together
abbrev lexeme_bytes : Lexemes → ℕ
lexeme_bytes [] = 0
lexeme_bytes (l ∷ ls) = length l.1 + lexeme_bytes ls

bytes_append : (a b : Lexemes) → lexeme_bytes (a ++ b) ≡ lexeme_bytes a + lexeme_bytes b
bytes_append [] b = omega arith
bytes_append (l ∷ a) b = let rest = bytes_append a b in omega (arith, rest)

word_bytes : (known : List ℕ) (a : Lexemes) → Word known a → lexeme_bytes a ≡ length known
word_bytes known _ (word w same) =
    let e : str_to_ascii_lowercase known ≡ str_to_ascii_lowercase w = (bytes_eq-Decides (str_to_ascii_lowercase known) (str_to_ascii_lowercase w)).0 same in
    let size = ap (λ z. length z) e in
    omega (arith, size, length-map known to_ascii_lowercase, length-map w to_ascii_lowercase)

exec_bytes : (a : Lexemes) → IsExec a → 4 ≤ lexeme_bytes a
exec_bytes _ (g.exec {a = a} w) = let size = word_bytes (codes "EXEC") a w in let four : length (codes "EXEC") ≡ 4 = refl in omega (arith, size, four)
exec_bytes _ (g.execute {a = a} w) = let size = word_bytes (codes "EXECUTE") a w in let seven : length (codes "EXECUTE") ≡ 7 = refl in omega (arith, size, seven)

body_bytes : (a : Lexemes) (x : Stmt) → IsBody a x → x ≡ stmt.Digest → 38 ≤ lexeme_bytes a
body_bytes _ _ (g.digest {a = a} {b = b} {c = c} first between called) is =
    let one = exec_bytes a first in
    let two = word_bytes (codes "sp_generate_database_ledger_digest") c called in
    let many : length (codes "sp_generate_database_ledger_digest") ≡ 34 = refl in
    omega (arith, one, two, many, bytes_append a (b ++ c), bytes_append b c)
body_bytes _ _ _ is = absurd (cc)

stmt_bytes : (a : Lexemes) → IsStmt a stmt.Digest → 38 ≤ lexeme_bytes a
stmt_bytes _ (g.statement {a = a} {b = b} body end) =
    let some = body_bytes a stmt.Digest body refl in
    omega (arith, some, bytes_append a b)

-- ---- tokens

-- how many bytes some tokens have together
abbrev token_bytes : List Token → ℕ
token_bytes [] = 0
token_bytes (t ∷ ts) = (t.end - t.start) + token_bytes ts

written_bytes : (text : List ℕ) (ts : List Token) → lexeme_bytes (map (written text) ts) ≤ token_bytes ts
written_bytes text [] = omega arith
written_bytes text (t ∷ ts) =
    let rest = written_bytes text ts in
    omega (arith, rest, length-take (t.end - t.start) (drop t.start text))

-- a token has a byte, and no more than so many
abbrev Short : ℕ → Option (Kind × ℕ) → Type 0
Short n None = Unit {0}
Short n (Some t) = (1 ≤ t.1) × (t.1 ≤ n)

short_or : (n : ℕ) (r : Option Kind) (other : Option (Kind × ℕ)) → Short n other → Short (suc n) (or_else (with_length (suc n) r) other)
short_or n (Some k) other short = (omega arith, omega arith)
short_or n None None short = tt
short_or n None (Some t) short = (short.0, omega (arith, short.1))

short_within : (n : ℕ) (z : List ℕ) → Short n (longest_within n z)
short_within zero z = tt
short_within (suc n) z = short_or n _ (longest_within n z) (short_within n z)

longest_short : (z : List ℕ) → Short (length z) (longest z)
unfolding longest
longest_short z = short_within (length z) z

-- the tokens have no more bytes than so many
abbrev Within : ℕ → Scan → Type 0
Within n (Ok ts) = token_bytes ts ≤ n
Within n (Err at) = Unit {0}

within_more : (m n : ℕ) (s : Scan) → m ≤ n → Within m s → Within n s
within_more m n (Ok ts) le within = omega (arith, le, within)
within_more m n (Err at) le within = tt

within_if : (n : ℕ) (c : Bool) (s u : Scan) → Within n s → Within n u → Within n (cond c s u)
within_if n true s u a b = a
within_if n false s u a b = b

one_more : (at n m : ℕ) (k : Kind) (s : Scan) → Within m s → Within (n + m) (with_front (record { start = at; end = at + n; kind = k } ∷ []) s)
one_more at n m k (Ok ts) within = omega (arith, within)
one_more at n m k (Err place) within = tt

goes_within : (at b : ℕ) (z : List ℕ) (r : Option (Kind × ℕ)) → Short (length (b ∷ z)) r
    → ((left : ℕ) → left ≤ length z → Within (length z - left) (scan left (at + 1) z)) → Within (length (b ∷ z)) (goes_on at r (λ left. scan left (at + 1) z))
goes_within at b z None short again = tt
goes_within at b z (Some t) short again =
    let few : t.1 - 1 ≤ length z = omega (arith, short.0, short.1) in
    let le : t.1 + (length z - (t.1 - 1)) ≤ length (b ∷ z) = omega (arith, short.0, short.1) in
    within_more (t.1 + (length z - (t.1 - 1))) (length (b ∷ z)) _ le
    (one_more at t.1 (length z - (t.1 - 1)) t.0 (scan (t.1 - 1) (at + 1) z) (again (t.1 - 1) few))

scan_within : (left at : ℕ) (z : List ℕ) → left ≤ length z → Within (length z - left) (scan left at z)
scan_within left at [] le = omega arith
scan_within (suc left) at (b ∷ z) le = within_more (length z - left) (length (b ∷ z) - suc left) (scan left (at + 1) z) (omega arith) (scan_within left (at + 1) z (omega (arith, le)))
scan_within zero at (b ∷ z) le =
    let again : (left : ℕ) → left ≤ length z → Within (length z - left) (scan left (at + 1) z) = λ left few. scan_within left (at + 1) z few in
    let all : length (b ∷ z) ≤ length (b ∷ z) - 0 = omega arith in
    let blank : Within (length (b ∷ z)) (scan 0 (at + 1) z) = within_more (length z - 0) (length (b ∷ z)) (scan 0 (at + 1) z) (omega arith) (again 0 (omega arith)) in
    let none : Within (length (b ∷ z)) (Ok []) = omega arith in
    let token = goes_within at b z (longest (b ∷ z)) (longest_short (b ∷ z)) again in
    within_more (length (b ∷ z)) (length (b ∷ z) - 0) (scan 0 at (b ∷ z)) all
    (within_if (length (b ∷ z)) (is_blank b) _ _ blank (within_if (length (b ∷ z)) (begins_comment (b ∷ z)) _ _ none token))

tokens_within : (text : List ℕ) → Within (length text) (tokens_of text)
tokens_within text = within_more (length text - 0) (length text) (scan 0 0 text) (omega arith) (scan_within 0 0 text (omega arith))

-- ---- texts

pub digest_bytes : (text : List ℕ) → IsStatement text stmt.Digest → 38 ≤ length text
digest_bytes text is =
    let some = stmt_bytes (map (written text) is.tokens) is.is in
    let all : token_bytes is.tokens ≤ length text = subst (Within (length text)) is.cut (tokens_within text) in
    omega (arith, some, all, written_bytes text is.tokens)
