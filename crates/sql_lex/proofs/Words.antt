-- The longest word, bracketed name and sign.
use Rattle.std.proofs.Common.{◌≡◌, ℕ, zero, suc, ◌+◌, ◌<◌, ◌≤◌, ◌==◌, Bool, true, false, cond, ◌&&◌, List, [], ◌∷◌, length, take, get_or, nat_lt, Some, None, refl, ap, sym, ◌∙◌, subst, arith}
use Rattle.std.proofs.lemmas.Bool.{and_parts}
use Rattle.std.proofs.lemmas.Bool.Decides.{nat_tests}
use Rattle.std.proofs.lemmas.List.{length-take-le}
use Rattle.std.proofs.lemmas.List.Sums.{prefix_len-le-length}
use Rattle.std.specs.List.{list_all, prefix_len}
use Rattle.sql_lex.specs.declared.front.Class.TheVariants as class
use Rattle.sql_lex.specs.IsToken.{begins_word, is_word_byte, is_word, is_name_byte, is_closed, is_bracketed, is_single, is_pair, is_sign}
use Rattle.sql_lex.specs.Front.{past, word, bracketed, sign}
use Rattle.sql_lex.proofs.Runs.{not_true, run_bound, run_passes}
use Rattle.sql_lex.proofs.Best.{Best, best_same, best_if}

start_is_word_byte : (b : ℕ) → begins_word b ≡ true → is_word_byte b ≡ true
start_is_word_byte b h = grind (arith, nat_tests)

word_most : (b : ℕ) (z : List ℕ) (m : ℕ) → m ≤ length (b ∷ z) → is_word (take m (b ∷ z)) ≡ true → m ≤ suc (prefix_len is_word_byte z)
word_most b z zero le h = omega arith
word_most b z (suc m) le h =
    let both = and_parts (begins_word b) (list_all is_word_byte (take m z)) h in
    let rest = run_bound is_word_byte z m (omega arith) both.1 in
    omega (arith, rest)

word_none : (b : ℕ) (z : List ℕ) → begins_word b ≡ false → (m : ℕ) → is_word (take m (b ∷ z)) ≡ false
word_none b z e zero = refl
word_none b z e (suc m) = rw e refl

pub best_word : (b : ℕ) (z : List ℕ) → Best is_word (b ∷ z) (word (b ∷ z))
best_word b z =
    best_if is_word (b ∷ z) (begins_word b) (Some (past class.Word (b ∷ z) 0)) None
    (λ e.
    let letter = start_is_word_byte b e in
    let run = prefix_len-le-length is_word_byte z in
    let n : past class.Word (b ∷ z) 0 ≡ suc (prefix_len is_word_byte z) = rw letter (omega arith) in
    best_same is_word (b ∷ z) (past class.Word (b ∷ z) 0) (suc (prefix_len is_word_byte z)) n (
      (omega arith),
      (omega (arith, run)),
      (rw (e, run_passes is_word_byte z (prefix_len is_word_byte z) (omega arith)) refl),
      word_most b z,
    ))
    (λ e m le. word_none b z e m)

closes_at : (b : ℕ) (z : List ℕ) (c : Bool) → is_name_byte b ≡ c → (get_or z (prefix_len is_name_byte z) 0 ≡ 93 → (prefix_len is_name_byte z < length z) × (is_closed (take (suc (prefix_len is_name_byte z)) z) ≡ true))
    → get_or (b ∷ z) (cond c (1 + prefix_len is_name_byte z) 0) 0 ≡ 93 → (cond c (1 + prefix_len is_name_byte z) 0 < length (b ∷ z)) × (is_closed (take (suc (cond c (1 + prefix_len is_name_byte z) 0)) (b ∷ z)) ≡ true)
closes_at b z false e rest h = (omega arith, rw h refl)
closes_at b [] true e rest h = cc
closes_at b (d ∷ z) true e rest h =
    let one : 1 + prefix_len is_name_byte (d ∷ z) ≡ suc (prefix_len is_name_byte (d ∷ z)) = omega arith in
    let found = rest (ap (λ n. get_or (b ∷ d ∷ z) n 0) (sym one) ∙ h) in
    let less : 1 + prefix_len is_name_byte (d ∷ z) < length (b ∷ d ∷ z) = omega (arith, found.0) in
    let P : ℕ → Type 0 = λ x. is_closed (take (suc x) (b ∷ d ∷ z)) ≡ true in
    let whole : is_closed (take (suc (suc (prefix_len is_name_byte (d ∷ z)))) (b ∷ d ∷ z)) ≡ true = rw e found.1 in
    (less, subst P (sym one) whole)

-- where ']' stands behind the run, the run and it are the rest of a name
closes : (z : List ℕ) → get_or z (prefix_len is_name_byte z) 0 ≡ 93 → (prefix_len is_name_byte z < length z) × (is_closed (take (suc (prefix_len is_name_byte z)) z) ≡ true)
closes [] h = cc
closes (b ∷ z) h = closes_at b z (is_name_byte b) refl (closes z) h

closing_no_name : (b : ℕ) → (b == 93) ≡ true → is_name_byte b ≡ false
closing_no_name b h = grind (arith, nat_tests)

closed_at : (b : ℕ) (z : List ℕ) (m : ℕ) → is_name_byte b ≡ true → (m ≡ suc (prefix_len is_name_byte z)) × (get_or z (prefix_len is_name_byte z) 0 ≡ 93)
    → (suc m ≡ suc (prefix_len is_name_byte (b ∷ z))) × (get_or (b ∷ z) (prefix_len is_name_byte (b ∷ z)) 0 ≡ 93)
closed_at b z m e rest =
    let one : 1 + prefix_len is_name_byte z ≡ suc (prefix_len is_name_byte z) = omega arith in
    rw e (omega (arith, rest.0), ap (λ n. get_or (b ∷ z) n 0) one ∙ rest.1)

-- the rest of a name is the run and ']'
closed_is : (z : List ℕ) (m : ℕ) → m ≤ length z → is_closed (take m z) ≡ true → (m ≡ suc (prefix_len is_name_byte z)) × (get_or z (prefix_len is_name_byte z) 0 ≡ 93)
closed_is [] zero le h = cc
closed_is [] (suc m) le h = absurd (omega arith)
closed_is (b ∷ z) zero le h = cc
closed_is (b ∷ z) (suc zero) le h =
    let at : b ≡ 93 = grind (arith, nat_tests) in
    rw (closing_no_name b h) (refl, at)
closed_is (b ∷ []) (suc (suc m)) le h = absurd (omega arith)
closed_is (b ∷ d ∷ z) (suc (suc m)) le h =
    let both = and_parts (is_name_byte b) (is_closed (d ∷ take m z)) h in
    closed_at b (d ∷ z) (suc m) both.0 (closed_is (d ∷ z) (suc m) (omega arith) both.1)

bracketed_none : (b : ℕ) (z : List ℕ) → (b == 91) ≡ false → (m : ℕ) → is_bracketed (take m (b ∷ z)) ≡ false
bracketed_none b z e zero = refl
bracketed_none b z e (suc m) = rw e refl

-- what a bracketed name says of the rest
bracketed_is : (b : ℕ) (z : List ℕ) (m : ℕ) → suc m ≤ length (b ∷ z) → is_bracketed (take (suc m) (b ∷ z)) ≡ true → (1 < m) × (m ≡ suc (prefix_len is_name_byte z)) × (get_or z (prefix_len is_name_byte z) 0 ≡ 93)
bracketed_is b z m le h =
    let last = and_parts (b == 91 && nat_lt 1 (length (take m z))) (is_closed (take m z)) h in
    let first = and_parts (b == 91) (nat_lt 1 (length (take m z))) last.0 in
    let len = length-take-le m z (omega arith) in
    let more : 1 < m = grind (arith, nat_tests, len, first.1) in
    let closed = closed_is z m (omega arith) last.1 in
    (more, closed.0, closed.1)

bracketed_most : (b : ℕ) (z : List ℕ) (m : ℕ) → m ≤ length (b ∷ z) → is_bracketed (take m (b ∷ z)) ≡ true → m ≤ suc (suc (prefix_len is_name_byte z))
bracketed_most b z zero le h = omega arith
bracketed_most b z (suc m) le h = let is = bracketed_is b z m le h in omega (arith, is.1)

bracketed_unless : (b : ℕ) (z : List ℕ) → (nat_lt 1 (1 + prefix_len is_name_byte z) && get_or (b ∷ z) (1 + prefix_len is_name_byte z) 0 == 93) ≡ false → (m : ℕ) → m ≤ length (b ∷ z) → is_bracketed (take m (b ∷ z)) ≡ false
bracketed_unless b z e zero le = refl
bracketed_unless b z e (suc m) le =
    not_true (is_bracketed (take (suc m) (b ∷ z))) (λ h.
    let is = bracketed_is b z m le h in
    let one : 1 + prefix_len is_name_byte z ≡ suc (prefix_len is_name_byte z) = omega arith in
    let more : nat_lt 1 (1 + prefix_len is_name_byte z) ≡ true = grind (arith, nat_tests, is.0, is.1) in
    let close : get_or (b ∷ z) (1 + prefix_len is_name_byte z) 0 ≡ 93 = ap (λ n. get_or (b ∷ z) n 0) one ∙ is.2 in
    let both : (nat_lt 1 (1 + prefix_len is_name_byte z) && get_or (b ∷ z) (1 + prefix_len is_name_byte z) 0 == 93) ≡ true = rw (more, close) refl in
    cc)

bracketed_when : (b : ℕ) (z : List ℕ) → (b == 91) ≡ true → (nat_lt 1 (1 + prefix_len is_name_byte z) && get_or (b ∷ z) (1 + prefix_len is_name_byte z) 0 == 93) ≡ true → Best is_bracketed (b ∷ z) (Some (1 + prefix_len is_name_byte z + 1))
bracketed_when b z open_ e =
    let both = and_parts (nat_lt 1 (1 + prefix_len is_name_byte z)) (get_or (b ∷ z) (1 + prefix_len is_name_byte z) 0 == 93) e in
    let one : 1 + prefix_len is_name_byte z ≡ suc (prefix_len is_name_byte z) = omega arith in
    let close : get_or (b ∷ z) (1 + prefix_len is_name_byte z) 0 ≡ 93 = grind (arith, nat_tests, both.1) in
    let some : 1 < 1 + prefix_len is_name_byte z = grind (arith, nat_tests, both.0) in
    let found = closes z (ap (λ n. get_or (b ∷ z) n 0) (sym one) ∙ close) in
    let n : 1 + prefix_len is_name_byte z + 1 ≡ suc (suc (prefix_len is_name_byte z)) = omega arith in
    let len = length-take-le (suc (prefix_len is_name_byte z)) z (omega (arith, found.0)) in
    let more : nat_lt 1 (length (take (suc (prefix_len is_name_byte z)) z)) ≡ true = grind (arith, nat_tests, len, some) in
    best_same is_bracketed (b ∷ z) (1 + prefix_len is_name_byte z + 1) (suc (suc (prefix_len is_name_byte z))) n (
      (omega arith),
      (omega (arith, found.0)),
      (rw (open_, more, found.1) refl),
      bracketed_most b z,
    )

pub best_bracketed : (b : ℕ) (z : List ℕ) → Best is_bracketed (b ∷ z) (bracketed (b ∷ z))
best_bracketed b z =
    best_if is_bracketed (b ∷ z) (b == 91) _ None
    (λ open_. best_if is_bracketed (b ∷ z) (nat_lt 1 (1 + prefix_len is_name_byte z) && get_or (b ∷ z) (1 + prefix_len is_name_byte z) 0 == 93) (Some (1 + prefix_len is_name_byte z + 1)) None
    (bracketed_when b z open_)
    (bracketed_unless b z))
    (λ e m le. bracketed_none b z e m)

sign_last : (b : ℕ) → is_pair b 0 ≡ false
sign_last b = grind (arith, nat_tests)

sign_most : (b : ℕ) (z : List ℕ) (m : ℕ) → m ≤ length (b ∷ z) → is_sign (take m (b ∷ z)) ≡ true → m ≤ 2
sign_most b z zero le h = omega arith
sign_most b z (suc zero) le h = omega arith
sign_most b [] (suc (suc m)) le h = absurd (omega arith)
sign_most b (c ∷ z) (suc (suc zero)) le h = omega arith
sign_most b (c ∷ []) (suc (suc (suc m))) le h = absurd (omega arith)
sign_most b (c ∷ d ∷ z) (suc (suc (suc m))) le h = cc

single_most : (b : ℕ) (z : List ℕ) → is_pair b (get_or z 0 0) ≡ false → (m : ℕ) → m ≤ length (b ∷ z) → is_sign (take m (b ∷ z)) ≡ true → m ≤ 1
single_most b z e zero le h = omega arith
single_most b z e (suc zero) le h = omega arith
single_most b [] e (suc (suc m)) le h = absurd (omega arith)
single_most b (c ∷ z) e (suc (suc zero)) le h = cc
single_most b (c ∷ []) e (suc (suc (suc m))) le h = absurd (omega arith)
single_most b (c ∷ d ∷ z) e (suc (suc (suc m))) le h = cc

no_sign : (b : ℕ) (z : List ℕ) → is_pair b (get_or z 0 0) ≡ false → is_single b ≡ false → (m : ℕ) → m ≤ length (b ∷ z) → is_sign (take m (b ∷ z)) ≡ false
no_sign b z e f zero le = refl
no_sign b z e f (suc zero) le = f
no_sign b [] e f (suc (suc m)) le = absurd (omega arith)
no_sign b (c ∷ z) e f (suc (suc zero)) le = e
no_sign b (c ∷ []) e f (suc (suc (suc m))) le = absurd (omega arith)
no_sign b (c ∷ d ∷ z) e f (suc (suc (suc m))) le = refl

pair_best : (b : ℕ) (z : List ℕ) → is_pair b (get_or z 0 0) ≡ true → Best is_sign (b ∷ z) (Some 2)
pair_best b [] e = absurd (let f = sign_last b in cc)
pair_best b (c ∷ z) e = (omega arith, omega arith, e, sign_most b (c ∷ z))

pub best_sign : (b : ℕ) (z : List ℕ) → Best is_sign (b ∷ z) (sign (b ∷ z))
best_sign b z =
    best_if is_sign (b ∷ z) (is_pair b (get_or z 0 0)) (Some 2) _
    (pair_best b z)
    (λ e. best_if is_sign (b ∷ z) (is_single b) (Some 1) None
    (λ f. (omega arith, omega arith, f, single_most b z e))
    (no_sign b z e))
