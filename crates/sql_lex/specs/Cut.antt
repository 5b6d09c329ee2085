-- All tokens of a text.
use Rattle.std.specs.Prelude.{ℕ, zero, suc, ◌+◌, ◌-◌, Bool, ◌&&◌, ◌||◌, if◌then◌else◌, ◌==◌, List, [], ◌∷◌, ◌++◌, slice_index, Option, Some, None, Result, Ok, Err}
use Rattle.sql_lex.specs.declared.token.Kind.{Kind}
use Rattle.sql_lex.specs.declared.token.Token.{Token}
use Rattle.sql_lex.specs.Longest.{longest}

-- the tokens, or the first place at which one must begin and none does
abbrev pub Scan : Type 0
Scan = Result (List Token) ℕ

-- space and tab
abbrev pub is_blank : ℕ → Bool
is_blank b = b == 32 || b == 9

-- "--"
abbrev pub begins_comment : List ℕ → Bool
begins_comment z = slice_index z 0 == 45 && slice_index z 1 == 45

-- these tokens, then those of the scan
abbrev pub with_front : List Token → Scan → Scan
with_front front (Ok ts) = Ok (front ++ ts)
with_front front (Err at) = Err at

-- the token that begins at the place, then what comes when so many bytes more are passed
abbrev pub goes_on : ℕ → Option (Kind × ℕ) → (ℕ → Scan) → Scan
goes_on at None rest = Err at
goes_on at (Some t) rest =
    with_front (record { start = at; end = at + t.1; kind = t.0 } ∷ []) (rest (t.1 - 1))

-- The tokens of the bytes from the place `at` on, of which the first `left` belong to a token before. Blanks
-- are
-- passed, a comment ends the text, and else the longest token is taken.
abbrev pub scan : ℕ → ℕ → List ℕ → Scan
scan left at [] = Ok []
scan (suc left) at (b ∷ z) = scan left (at + 1) z
scan zero at (b ∷ z) =
    if is_blank b then scan 0 (at + 1) z
    else (if begins_comment (b ∷ z) then Ok []
    else goes_on at (longest (b ∷ z)) (λ left. scan left (at + 1) z))

-- the tokens of a text
abbrev pub tokens_of : List ℕ → Scan
tokens_of text = scan 0 0 text
