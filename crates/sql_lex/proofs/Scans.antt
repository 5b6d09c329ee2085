-- One turn of the loop over a text.
use Rattle.std.proofs.Common.{◌≡◌, ℕ, zero, suc, ◌+◌, ◌-◌, ◌≤◌, true, false, List, [], ◌∷◌, ◌++◌, length, drop, get_or, refl, ap, append_assoc, arith, length-drop, ◌∙◌, Some, None, Ok, Err}
use Rattle.sql_lex.specs.declared.token.Token.{Token}
use Rattle.sql_lex.specs.declared.token.Kind.{Kind}
use Rattle.sql_lex.specs.Longest.{longest}
use Rattle.sql_lex.specs.Cut.{Scan, scan, with_front, is_blank, begins_comment}

pub scan-drop : (n at : ℕ) (z : List ℕ) → scan n at z ≡ scan 0 (at + n) (drop n z)
scan-drop zero at [] = refl
scan-drop zero at (b ∷ z) = let e : at ≡ at + 0 = omega arith in ap (λ k. scan 0 k (b ∷ z)) e
scan-drop (suc n) at [] = refl
scan-drop (suc n) at (b ∷ z) = let e : at + 1 + n ≡ at + suc n = omega arith in scan-drop n (at + 1) z ∙ ap (λ k. scan 0 k (drop n z)) e

-- what is left of a token is passed over
pub past_token : (n at b : ℕ) (z : List ℕ) → 1 ≤ n → scan (n - 1) (at + 1) z ≡ scan 0 (at + n) (drop n (b ∷ z))
past_token zero at b z h = absurd (omega arith)
past_token (suc n) at b z h =
    let e : suc n - 1 ≡ n = omega arith in
    let f : at + 1 + n ≡ at + suc n = omega arith in
    ap (λ k. scan k (at + 1) z) e ∙ scan-drop n (at + 1) z ∙ ap (λ k. scan 0 k (drop n z)) f

pub with_front-append : (xs ys : List Token) (s : Scan) → with_front xs (with_front ys s) ≡ with_front (xs ++ ys) s
with_front-append xs ys (Ok ts) = ap (λ l. Ok l) (rw append_assoc refl)
with_front-append xs ys (Err at) = refl

pub token_goes : (at : ℕ) (z : List ℕ) (k : Kind) (n : ℕ) → 1 ≤ length z → is_blank (get_or z 0 0) ≡ false → begins_comment z ≡ false → longest z ≡ Some (k, n) → 1 ≤ n
    → scan 0 at z ≡ with_front (record { start = at; end = at + n; kind = k } ∷ []) (scan 0 (at + n) (drop n z))
token_goes at [] k n some blank comment found moves = absurd (omega arith)
token_goes at (b ∷ z) k n some blank comment found moves = rw (blank, comment, found, past_token n at b z moves) refl

pub loop_turn : (whole : Scan) (at : ℕ) (z : List ℕ) (k : Kind) (n : ℕ) (front after : List Token) → 1 ≤ length z → is_blank (get_or z 0 0) ≡ false → begins_comment z ≡ false → longest z ≡ Some (k, n) → 1 ≤ n
    → whole ≡ with_front front (scan 0 at z) → after ≡ front ++ (record { start = at; end = at + n; kind = k } ∷ []) → whole ≡ with_front after (scan 0 (at + n) (drop n z))
loop_turn whole at z k n front after some blank comment found moves so_far pushed =
    let goes = token_goes at z k n some blank comment found moves in
    let joined = with_front-append front (record { start = at; end = at + n; kind = k } ∷ []) (scan 0 (at + n) (drop n z)) in
    cc

pub count_turn : (at n m : ℕ) (z : List ℕ) → n ≤ length z → at + length z ≡ m → at + n + length (drop n z) ≡ m
count_turn at n m z within e = rw length-drop (omega arith)
