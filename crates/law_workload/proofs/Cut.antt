-- The tokens of a text, as they are written, without their places.
use Rattle.std.proofs.Common.{◌≡◌, ℕ, zero, suc, ◌+◌, ◌-◌, Bool, true, false, List, [], ◌∷◌, ◌++◌, length, take, drop, map, slice_range, Option, Some, None, Ok, Err, refl, ap, subst, cond, ◌∙◌, sym, arith, append_assoc, length-append}
use Rattle.std.specs.Prelude.{if◌then◌else◌}
use Rattle.std.proofs.lemmas.List.{take_at, drop_at}
use Rattle.sql_lex.specs.declared.token.Kind.{Kind}
use Rattle.sql_lex.specs.declared.token.Token.{Token}
use Rattle.sql_lex.specs.Longest.{longest}
use Rattle.sql_lex.specs.Front.{front}
use Rattle.sql_lex.specs.Cut.{is_blank, begins_comment, Scan, scan, with_front, goes_on, tokens_of}
use Rattle.sql_lex.proofs.Found.{front_is}

abbrev pub Lexeme : Type 0
Lexeme = Kind × List ℕ

abbrev pub lexeme : List ℕ → Token → Lexeme
lexeme text t = (t.kind, slice_range text t.start t.end)

abbrev pub prepend : Lexeme → Option (List Lexeme) → Option (List Lexeme)
prepend u (Some ss) = Some (u ∷ ss)
prepend u None = None

abbrev goes : List ℕ → Option (Kind × ℕ) → (ℕ → Option (List Lexeme)) → Option (List Lexeme)
goes z None rest = None
goes z (Some t) rest = prepend (t.0, take t.1 z) (rest (t.1 - 1))

-- the tokens of the bytes behind the first ones, which belong to a token before
abbrev pub cut : ℕ → List ℕ → Option (List Lexeme)
cut left [] = Some []
cut (suc left) (b ∷ z) = cut left z
cut zero (b ∷ z) = if is_blank b then cut 0 z else (if begins_comment (b ∷ z) then Some [] else goes (b ∷ z) (longest (b ∷ z)) (λ left. cut left z))

cut_drop : (n : ℕ) (z : List ℕ) → cut n z ≡ cut 0 (drop n z)
cut_drop zero z = refl
cut_drop (suc n) [] = refl
cut_drop (suc n) (b ∷ z) = cut_drop n z

cut_token : (k : Kind) (b : ℕ) (w rest : List ℕ) → is_blank b ≡ false → begins_comment (b ∷ (w ++ rest)) ≡ false → longest (b ∷ (w ++ rest)) ≡ Some (k, length (b ∷ w))
    → cut 0 (b ∷ (w ++ rest)) ≡ prepend (k, b ∷ w) (cut 0 rest)
cut_token k b w rest blank comment found =
    let n : length (b ∷ w) - 1 ≡ length w = omega arith in
    rw (blank, comment, found) (ap (λ z. prepend (k, z) (cut (length (b ∷ w) - 1) (w ++ rest))) (take_at (b ∷ w) rest (length (b ∷ w)) refl)
    ∙ ap (prepend (k, b ∷ w)) (ap (λ m. cut m (w ++ rest)) n ∙ cut_drop (length w) (w ++ rest) ∙ ap (cut 0) (drop_at w rest (length w) refl)))

-- a token, and then those of the rest
pub token : (k : Kind) (b : ℕ) (w rest : List ℕ) (ss : List Lexeme) → is_blank b ≡ false → begins_comment (b ∷ (w ++ rest)) ≡ false → front (b ∷ (w ++ rest)) ≡ Some (k, length (b ∷ w))
    → cut 0 rest ≡ Some ss → cut 0 (b ∷ (w ++ rest)) ≡ Some ((k, b ∷ w) ∷ ss)
token k b w rest ss blank comment found more =
    cut_token k b w rest blank comment (sym (front_is (b ∷ (w ++ rest))) ∙ found) ∙ ap (prepend (k, b ∷ w)) more

-- a token, a blank, and then the tokens of the rest
pub spaced : (k : Kind) (b : ℕ) (w rest : List ℕ) (ss : List Lexeme) → is_blank b ≡ false → begins_comment (b ∷ (w ++ 32 ∷ rest)) ≡ false → front (b ∷ (w ++ 32 ∷ rest)) ≡ Some (k, length (b ∷ w))
    → cut 0 rest ≡ Some ss → cut 0 (b ∷ (w ++ 32 ∷ rest)) ≡ Some ((k, b ∷ w) ∷ ss)
spaced k b w rest ss blank comment found more = token k b w (32 ∷ rest) ss blank comment found more

abbrev Same : List ℕ → Scan → Option (List Lexeme) → Type 0
Same text (Ok ts) o = o ≡ Some (map (lexeme text) ts)
Same text (Err at) o = o ≡ None

slice_front : (front z : List ℕ) (n : ℕ) → slice_range (front ++ z) (length front) (length front + n) ≡ take n z
slice_front front z n =
    let e : length front + n - length front ≡ n = omega arith in
    ap (λ m. take m (drop (length front) (front ++ z))) e ∙ ap (λ y. take n y) (drop_at front z (length front) refl)

further : (front : List ℕ) (b : ℕ) (z : List ℕ) (left : ℕ) → Same ((front ++ b ∷ []) ++ z) (scan left (length (front ++ b ∷ [])) z) (cut left z) → Same (front ++ b ∷ z) (scan left (length front + 1) z) (cut left z)
further front b z left h =
    subst (λ m. Same (front ++ b ∷ z) (scan left m z) (cut left z)) (length-append front (b ∷ [])) (subst (λ t. Same t (scan left (length (front ++ b ∷ [])) z) (cut left z)) (append_assoc front (b ∷ []) z) h)

token_same : (front z : List ℕ) (k : Kind) (n : ℕ) (s : Scan) (o : Option (List Lexeme)) → Same (front ++ z) s o
    → Same (front ++ z) (with_front (record { start = length front; end = length front + n; kind = k } ∷ []) s) (prepend (k, take n z) o)
token_same front z k n (Ok ts) o h =
    ap (prepend (k, take n z)) h ∙ ap (λ x. Some ((k, x) ∷ map (lexeme (front ++ z)) ts)) (sym (slice_front front z n))
token_same front z k n (Err at) o h = ap (prepend (k, take n z)) h

found_same : (front : List ℕ) (b : ℕ) (z : List ℕ) → ((left : ℕ) → Same (front ++ b ∷ z) (scan left (length front + 1) z) (cut left z)) → (q : Option (Kind × ℕ))
    → Same (front ++ b ∷ z) (goes_on (length front) q (λ left. scan left (length front + 1) z)) (goes (b ∷ z) q (λ left. cut left z))
found_same front b z again None = refl
found_same front b z again (Some t) = token_same front (b ∷ z) t.0 t.1 (scan (t.1 - 1) (length front + 1) z) (cut (t.1 - 1) z) (again (t.1 - 1))

cond_same : (c : Bool) (text : List ℕ) (s u : Scan) (p q : Option (List Lexeme)) → Same text s p → Same text u q → Same text (cond c s u) (cond c p q)
cond_same true text s u p q a b = a
cond_same false text s u p q a b = b

same : (front z : List ℕ) (left : ℕ) → Same (front ++ z) (scan left (length front) z) (cut left z)
same front [] zero = refl
same front [] (suc left) = refl
same front (b ∷ z) (suc left) = further front b z left (same (front ++ b ∷ []) z left)
same front (b ∷ z) zero =
    let again : (left : ℕ) → Same (front ++ b ∷ z) (scan left (length front + 1) z) (cut left z) = λ left. further front b z left (same (front ++ b ∷ []) z left) in
    cond_same (is_blank b) (front ++ b ∷ z) _ _ _ _ (again 0)
    (cond_same (begins_comment (b ∷ z)) (front ++ b ∷ z) (Ok []) _ (Some []) _ refl (found_same front b z again (longest (b ∷ z))))

abbrev HasTokens : List ℕ → List Lexeme → Scan → Type 0
HasTokens text ss s = (ts : List Token) × (s ≡ Ok ts) × (map (lexeme text) ts ≡ ss)

of_same : (text : List ℕ) (ss : List Lexeme) (s : Scan) (o : Option (List Lexeme)) → Same text s o → o ≡ Some ss → HasTokens text ss s
of_same text ss (Ok ts) o h is = (ts, refl, (let both : ◌≡◌ {A = Option (List Lexeme)} (Some (map (lexeme text) ts)) (Some ss) = sym h ∙ is in cc))
of_same text ss (Err at) o h is = absurd (let both : ◌≡◌ {A = Option (List Lexeme)} None (Some ss) = sym h ∙ is in cc)

-- a text that is cut so has tokens that are written so
pub tokens_written : (text : List ℕ) (ss : List Lexeme) → cut 0 text ≡ Some ss → HasTokens text ss (tokens_of text)
tokens_written text ss is = of_same text ss (tokens_of text) (cut 0 text) (same [] text 0) is
