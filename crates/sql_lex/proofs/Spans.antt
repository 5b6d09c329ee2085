-- Tokens are pieces of their text, one behind the other, and cut no character.
use Rattle.std.proofs.Common.{◌≡◌, ℕ, zero, suc, ◌+◌, ◌-◌, ◌<◌, ◌≤◌, Bool, true, false, cond, List, [], ◌∷◌, length, take, drop, get_or, All, IfOk, Option, Some, None, Result, Ok, Err, refl, ap, sym, ◌∙◌, subst, arith}
use Rattle.std.specs.Str.{IsUtf8, IsCharBoundary}
use Rattle.std.proofs.lemmas.Str.{IsCharBoundary-before_ascii, IsCharBoundary-after_ascii}
use Rattle.std.proofs.lemmas.List.{length-take-le, get_or-take, get_or-drop, drop-drop}
use Rattle.std.proofs.lemmas.List.Elements.{All-nil, All-cons}
use Rattle.sql_lex.specs.declared.token.Kind.{Kind}
use Rattle.sql_lex.specs.declared.token.Token.{Token}
use Rattle.sql_lex.specs.IsToken.{kind_of}
use Rattle.sql_lex.specs.Longest.{longest, longest_within, or_else, with_length}
use Rattle.sql_lex.specs.Cut.{Scan, scan, tokens_of, with_front, goes_on, is_blank, begins_comment}
use Rattle.sql_lex.specs.Spans.{Rise, IsSpan}
use Rattle.sql_lex.proofs.Ends.{Ends, last_of, last_at, token_ends}

-- the first bytes are a token of the kind, no more than so many
abbrev Fits : ℕ → List ℕ → Option (Kind × ℕ) → Type 0
Fits n z None = Unit {0}
Fits n z (Some t) = (1 ≤ t.1) × (t.1 ≤ n) × (kind_of (take t.1 z) ≡ Some t.0)

fits_or : (n : ℕ) (z : List ℕ) (r : Option Kind) (q : Option (Kind × ℕ)) → kind_of (take (suc n) z) ≡ r → Fits n z q → Fits (suc n) z (or_else (with_length (suc n) r) q)
fits_or n z (Some k) q e fits = (omega arith, omega arith, e)
fits_or n z None None e fits = tt
fits_or n z None (Some t) e fits = (fits.0, omega (arith, fits.1), fits.2)

fits_within : (n : ℕ) (z : List ℕ) → Fits n z (longest_within n z)
fits_within zero z = tt
fits_within (suc n) z = fits_or n z (kind_of (take (suc n) z)) (longest_within n z) refl (fits_within n z)

longest_fits : (z : List ℕ) → Fits (length z) z (longest z)
unfolding longest
longest_fits z = fits_within (length z) z

-- the text from a place on
abbrev IsRest : List ℕ → ℕ → List ℕ → Type 0
IsRest text at z = (drop at text ≡ z) × (at + length z ≡ length text)

next_rest : (text : List ℕ) (at b : ℕ) (z : List ℕ) → IsRest text at (b ∷ z) → IsRest text (at + 1) z
next_rest text at b z rest = (sym (drop-drop 1 at text) ∙ ap (λ x. drop 1 x) rest.0, omega (arith, rest.1))

at_rest : (text : List ℕ) (at : ℕ) (z : List ℕ) (i : ℕ) → IsRest text at z → get_or text (at + i) 0 ≡ get_or z i 0
at_rest text at z i rest = sym (get_or-drop at text i 0) ∙ ap (λ x. get_or x i 0) rest.0

span_at : (text : List ℕ) (at b : ℕ) (z : List ℕ) (k : Kind) (n : ℕ) → IsUtf8 text → IsRest text at (b ∷ z) → suc n ≤ length (b ∷ z) → kind_of (take (suc n) (b ∷ z)) ≡ Some k → IsSpan text (record { start = at; end = at + suc n; kind = k })
span_at text at b z k n utf8 rest few is =
    let ends : Ends (b ∷ take n z) = token_ends (take (suc n) (b ∷ z)) k is in
    let len = length-take-le n z (omega arith) in
    let same : at + 0 ≡ at = omega arith in
    let first : get_or text at 0 ≡ b = ap (λ i. get_or text i 0) (sym same) ∙ at_rest text at (b ∷ z) 0 rest in
    let last : last_of (b ∷ take n z) ≡ get_or text (at + n) 0 =
    last_at b (take n z) ∙ ap (λ i. get_or (take (suc n) (b ∷ z)) i 0) len ∙ get_or-take (suc n) (b ∷ z) n 0 (omega arith) ∙ sym (at_rest text at (b ∷ z) n rest) in
    let low_first : get_or text at 0 < 128 = omega (arith, first, ends.0) in
    let low_last : get_or text (at + n) 0 < 128 = omega (arith, last, ends.1) in
    let end : at + n + 1 ≡ at + suc n = omega arith in
    record {
      some = omega arith;
      within = omega (arith, rest.1);
      start = IsCharBoundary-before_ascii text at (omega (arith, rest.1)) low_first;
      end = subst (IsCharBoundary text) end (IsCharBoundary-after_ascii text (at + n) utf8 (omega (arith, rest.1)) low_last);
    }

span_of : (text : List ℕ) (at b : ℕ) (z : List ℕ) (k : Kind) (n : ℕ) → IsUtf8 text → IsRest text at (b ∷ z) → Fits (length (b ∷ z)) (b ∷ z) (Some (k, n)) → IsSpan text (record { start = at; end = at + n; kind = k })
span_of text at b z k zero utf8 rest fits = absurd (omega (arith, fits.0))
span_of text at b z k (suc n) utf8 rest fits = span_at text at b z k n utf8 rest fits.1 fits.2

-- the tokens that were found lie behind the place, and are spans
abbrev Placed : List ℕ → ℕ → Scan → Type 0
Placed text at (Ok ts) = Rise at ts (length text) × All (IsSpan text) ts
Placed text at (Err place) = Unit {0}

earlier : (at before end : ℕ) (ts : List Token) → before ≤ at → Rise at ts end → Rise before ts end
earlier at before end [] le rise = omega (arith, rise)
earlier at before end (t ∷ ts) le rise = (omega (arith, rise.0), rise.1, rise.2)

placed_earlier : (text : List ℕ) (at before : ℕ) (s : Scan) → before ≤ at → Placed text at s → Placed text before s
placed_earlier text at before (Ok ts) le placed = (earlier at before (length text) ts le placed.0, placed.1)
placed_earlier text at before (Err place) le placed = tt

with_token : (text : List ℕ) (at n : ℕ) (k : Kind) (s : Scan) → 1 ≤ n → IsSpan text (record { start = at; end = at + n; kind = k }) → Placed text (at + n) s → Placed text at (with_front (record { start = at; end = at + n; kind = k } ∷ []) s)
with_token text at n k (Ok ts) some span placed = ((omega arith, omega arith, placed.0), All-cons (IsSpan text) (record { start = at; end = at + n; kind = k }) ts span placed.1)
with_token text at n k (Err place) some span placed = tt

token_placed : (text : List ℕ) (at b : ℕ) (z : List ℕ) (r : Option (Kind × ℕ)) → IsUtf8 text → IsRest text at (b ∷ z) → Fits (length (b ∷ z)) (b ∷ z) r
    → ((left : ℕ) → left ≤ length z → Placed text (at + 1 + left) (scan left (at + 1) z)) → Placed text at (goes_on at r (λ left. scan left (at + 1) z))
token_placed text at b z None utf8 rest fits again = tt
token_placed text at b z (Some t) utf8 rest fits again =
    let le : t.1 - 1 ≤ length z = omega (arith, fits.1) in
    let same : at + 1 + (t.1 - 1) ≡ at + t.1 = omega (arith, fits.0) in
    with_token text at t.1 t.0 (scan (t.1 - 1) (at + 1) z) fits.0 (span_of text at b z t.0 t.1 utf8 rest fits) (subst (λ x. Placed text x (scan (t.1 - 1) (at + 1) z)) same (again (t.1 - 1) le))

placed_if : (text : List ℕ) (at : ℕ) (c : Bool) (s u : Scan) → Placed text at s → Placed text at u → Placed text at (cond c s u)
placed_if text at true s u a b = a
placed_if text at false s u a b = b

placed : (text : List ℕ) (left at : ℕ) (z : List ℕ) → IsUtf8 text → IsRest text at z → left ≤ length z → Placed text (at + left) (scan left at z)
placed text left at [] utf8 rest le = (omega (arith, rest.1), All-nil (IsSpan text))
placed text (suc left) at (b ∷ z) utf8 rest le =
    let same : at + 1 + left ≡ at + suc left = omega arith in
    subst (λ x. Placed text x (scan left (at + 1) z)) same (placed text left (at + 1) z utf8 (next_rest text at b z rest) (omega arith))
placed text zero at (b ∷ z) utf8 rest le =
    let same : at ≡ at + 0 = omega arith in
    let again : (left : ℕ) → left ≤ length z → Placed text (at + 1 + left) (scan left (at + 1) z) = λ left few. placed text left (at + 1) z utf8 (next_rest text at b z rest) few in
    let blank : Placed text at (scan 0 (at + 1) z) = placed_earlier text (at + 1 + 0) at (scan 0 (at + 1) z) (omega arith) (again 0 (omega arith)) in
    let none : Placed text at (Ok []) = (omega (arith, rest.1), All-nil (IsSpan text)) in
    let token = token_placed text at b z (longest (b ∷ z)) utf8 rest (longest_fits (b ∷ z)) again in
    subst (λ x. Placed text x (scan 0 at (b ∷ z))) same (placed_if text at (is_blank b) _ _ blank (placed_if text at (begins_comment (b ∷ z)) _ _ none token))

tokens_placed : (text : List ℕ) → IsUtf8 text → Placed text 0 (tokens_of text)
tokens_placed text utf8 = placed text 0 0 text utf8 (refl, omega arith) (omega arith)

module _ {E : Type 0} (text : List ℕ) (utf8 : IsUtf8 text) where
  pub rise_if : (r : Result (List Token) E) → IfOk r (λ found. tokens_of text ≡ Ok found) → IfOk r (λ found. Rise 0 found (length text))
  rise_if (Ok found) is = (subst (Placed text 0) is (tokens_placed text utf8)).0
  rise_if (Err e) is = tt

  pub spans_if : (r : Result (List Token) E) → IfOk r (λ found. tokens_of text ≡ Ok found) → IfOk r (All (IsSpan text))
  spans_if (Ok found) is = (subst (Placed text 0) is (tokens_placed text utf8)).1
  spans_if (Err e) is = tt
