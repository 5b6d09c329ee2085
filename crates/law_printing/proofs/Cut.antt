-- The tokens of a text, without their places.
use Rattle.std.proofs.Common.{◌≡◌, ℕ, zero, suc, ◌+◌, ◌-◌, Bool, true, false, List, [], ◌∷◌, ◌++◌, length, take, drop, map, slice_range, Option, Some, None, Ok, Err, refl, ap, subst, cond, ◌∙◌, sym, arith, append_assoc, length-append}
use Rattle.std.specs.Prelude.{if◌then◌else◌, option_and_then}
use Rattle.sql_lex.specs.declared.token.Kind.{Kind}
use Rattle.sql_lex.specs.Longest.{longest}
use Rattle.sql_lex.specs.Cut.{is_blank, begins_comment, Scan, scan, with_front, goes_on, tokens_of}
use Rattle.spec_syntax.specs.Tags.{tag_of}
use Rattle.spec_syntax.specs.Input.{Sym}
use Rattle.spec_syntax.specs.Stmt.{statement_of_tokens}
use Rattle.spec_syntax.specs.Text.{sym_of, of_scan, grammar_statement_of}

abbrev pub prepend : List Sym → Option (List Sym) → Option (List Sym)
prepend us (Some ss) = Some (us ++ ss)
prepend us None = None

abbrev pub sym_at : Kind → List ℕ → Sym
sym_at k w = (tag_of k w, w)

abbrev pub goes : List ℕ → Option (Kind × ℕ) → (ℕ → Option (List Sym)) → Option (List Sym)
goes z None rest = None
goes z (Some t) rest = prepend (sym_at t.0 (take t.1 z) ∷ []) (rest (t.1 - 1))

-- the tokens of the bytes behind the first ones, which belong to a token before
abbrev pub cut : ℕ → List ℕ → Option (List Sym)
cut left [] = Some []
cut (suc left) (b ∷ z) = cut left z
cut zero (b ∷ z) = if is_blank b then cut 0 z else (if begins_comment (b ∷ z) then Some [] else goes (b ∷ z) (longest (b ∷ z)) (λ left. cut left z))

cut_drop : (n : ℕ) (z : List ℕ) → cut n z ≡ cut 0 (drop n z)
cut_drop zero z = refl
cut_drop (suc n) [] = refl
cut_drop (suc n) (b ∷ z) = cut_drop n z

take_front : {A : Type 0} (n m : List A) → take (length n) (n ++ m) ≡ n
take_front [] m = refl
take_front (x ∷ n) m = ap (λ z. x ∷ z) (take_front n m)

drop_front : {A : Type 0} (n m : List A) → drop (length n) (n ++ m) ≡ m
drop_front [] m = refl
drop_front (x ∷ n) m = drop_front n m

-- a token, and then the rest
pub cut_token : (k : Kind) (b : ℕ) (w rest : List ℕ) → is_blank b ≡ false → begins_comment (b ∷ (w ++ rest)) ≡ false → longest (b ∷ (w ++ rest)) ≡ Some (k, length (b ∷ w))
    → cut 0 (b ∷ (w ++ rest)) ≡ prepend (sym_at k (b ∷ w) ∷ []) (cut 0 rest)
cut_token k b w rest blank comment found =
    let n : length (b ∷ w) - 1 ≡ length w = omega arith in
    rw (blank, comment, found) (ap (λ z. prepend (sym_at k z ∷ []) (cut (length (b ∷ w) - 1) (w ++ rest))) (take_front (b ∷ w) rest)
    ∙ ap (prepend (sym_at k (b ∷ w) ∷ [])) (ap (λ m. cut m (w ++ rest)) n ∙ cut_drop (length w) (w ++ rest) ∙ ap (cut 0) (drop_front w rest)))

abbrev Same : List ℕ → Scan → Option (List Sym) → Type 0
Same text (Ok ts) o = o ≡ Some (map (sym_of text) ts)
Same text (Err at) o = o ≡ None

slice_front : (front z : List ℕ) (n : ℕ) → slice_range (front ++ z) (length front) (length front + n) ≡ take n z
slice_front front z n =
    let e : length front + n - length front ≡ n = omega arith in
    ap (λ m. take m (drop (length front) (front ++ z))) e ∙ ap (λ y. take n y) (drop_front front z)

-- one byte further
further : (front : List ℕ) (b : ℕ) (z : List ℕ) (left : ℕ) → Same ((front ++ b ∷ []) ++ z) (scan left (length (front ++ b ∷ [])) z) (cut left z) → Same (front ++ b ∷ z) (scan left (length front + 1) z) (cut left z)
further front b z left h =
    subst (λ m. Same (front ++ b ∷ z) (scan left m z) (cut left z)) (length-append front (b ∷ [])) (subst (λ t. Same t (scan left (length (front ++ b ∷ [])) z) (cut left z)) (append_assoc front (b ∷ []) z) h)

token_same : (front z : List ℕ) (k : Kind) (n : ℕ) (s : Scan) (o : Option (List Sym)) → Same (front ++ z) s o
    → Same (front ++ z) (with_front (record { start = length front; end = length front + n; kind = k } ∷ []) s) (prepend (sym_at k (take n z) ∷ []) o)
unfolding sym_of
token_same front z k n (Ok ts) o h =
    ap (prepend (sym_at k (take n z) ∷ [])) h ∙ ap (λ x. Some (sym_at k x ∷ map (sym_of (front ++ z)) ts)) (sym (slice_front front z n))
token_same front z k n (Err at) o h = ap (prepend (sym_at k (take n z) ∷ [])) h

found_same : (front : List ℕ) (b : ℕ) (z : List ℕ) → ((left : ℕ) → Same (front ++ b ∷ z) (scan left (length front + 1) z) (cut left z)) → (q : Option (Kind × ℕ))
    → Same (front ++ b ∷ z) (goes_on (length front) q (λ left. scan left (length front + 1) z)) (goes (b ∷ z) q (λ left. cut left z))
found_same front b z again None = refl
found_same front b z again (Some t) = token_same front (b ∷ z) t.0 t.1 (scan (t.1 - 1) (length front + 1) z) (cut (t.1 - 1) z) (again (t.1 - 1))

cond_same : (c : Bool) (text : List ℕ) (s u : Scan) (p q : Option (List Sym)) → Same text s p → Same text u q → Same text (cond c s u) (cond c p q)
cond_same true text s u p q a b = a
cond_same false text s u p q a b = b

same : (front z : List ℕ) (left : ℕ) → Same (front ++ z) (scan left (length front) z) (cut left z)
same front [] zero = refl
same front [] (suc left) = refl
same front (b ∷ z) (suc left) = further front b z left (same (front ++ b ∷ []) z left)
same front (b ∷ z) zero =
    let again : (left : ℕ) → Same (front ++ b ∷ z) (scan left (length front + 1) z) (cut left z) = λ left. further front b z left (same (front ++ b ∷ []) z left) in
    cond_same (is_blank b) (front ++ b ∷ z) _ _ _ _ (again 0)
    (cond_same (begins_comment (b ∷ z)) (front ++ b ∷ z) (Ok []) _ (Some []) _ refl (found_same front b z again (longest (b ∷ z))))

of_same : (text : List ℕ) (s : Scan) (o : Option (List Sym)) → Same text s o → of_scan text s ≡ option_and_then statement_of_tokens o
of_same text (Ok ts) o h = ap (option_and_then statement_of_tokens) (sym h)
of_same text (Err at) o h = ap (option_and_then statement_of_tokens) (sym h)

-- the statement that a text is, by its tokens without places
pub statement_of_cut : (text : List ℕ) → grammar_statement_of text ≡ option_and_then statement_of_tokens (cut 0 text)
unfolding grammar_statement_of
statement_of_cut text = of_same text (tokens_of text) (cut 0 text) (same [] text 0)
