-- The longest quoted text.
use Rattle.std.proofs.Common.{◌≡◌, ℕ, zero, suc, ◌+◌, ◌≤◌, ◌==◌, inl, inr, Bool, true, false, cond, ◌&&◌, ◌||◌, List, [], ◌∷◌, length, take, drop, get_or, Option, Some, None, refl, sym, ◌∙◌, subst, arith}
use Rattle.std.proofs.lemmas.Bool.{and_parts}
use Rattle.std.proofs.lemmas.Bool.Decides.{nat_tests}
use Rattle.sql_lex.specs.IsToken.{is_inside, is_text}
use Rattle.sql_lex.specs.Front.{closing, text}
use Rattle.sql_lex.proofs.Quotes.{covers, finds}
use Rattle.sql_lex.proofs.Runs.{not_true}
use Rattle.sql_lex.proofs.Best.{Best, best_same, best_if}

and_none : (a : Bool) → (a && false) ≡ false
and_none true = refl
and_none false = refl

-- so many bytes are the rest of a text and no more are, or none, counted from the place `at`
abbrev Closes : ℕ → List ℕ → Option ℕ → Type 0
Closes at z None = (m : ℕ) → m ≤ length z → is_inside false (take m z) ≡ false
Closes at z (Some n) = (j : ℕ) × (n ≡ at + j) × (j ≤ length z) × (is_inside false (take j z) ≡ true) × ((m : ℕ) → m ≤ length z → is_inside false (take m z) ≡ true → at + m ≤ n)

the_place : (a b : ℕ) → ◌≡◌ {A = Option ℕ} (Some a) (Some b) → a ≡ b
the_place a b h = cc

closes_by : (at : ℕ) (z : List ℕ) (r : Option ℕ) → closing false None at z ≡ r → Closes at z r
closes_by at z None e = λ m le. not_true (is_inside false (take m z)) (λ h. let c = covers false None at z m tt tt le h in cc)
closes_by at z (Some n) e =
    elim (finds false None at z n e) [
      | inl k ↦ absurd cc
      | inr k ↦ (k.0, k.1, k.2, k.3, λ m le h. let c = covers false None at z m tt tt le h in let same = the_place c.0 n (sym c.1 ∙ e) in omega (arith, c.2, same))
    ]

quoted_none : (b : ℕ) (z : List ℕ) → b ≡ 39 → Closes 1 z None → (m : ℕ) → m ≤ length (b ∷ z) → is_text (take m (b ∷ z)) ≡ false
quoted_none b z e closes zero le = refl
quoted_none b z e closes (suc m) le = rw e (closes m (omega arith))

quoted_most : (b : ℕ) (z : List ℕ) (n : ℕ) → b ≡ 39 → Closes 1 z (Some n) → (m : ℕ) → m ≤ length (b ∷ z) → is_text (take m (b ∷ z)) ≡ true → m ≤ n
quoted_most b z n e closes zero le h = omega arith
quoted_most b z n e closes (suc m) le h =
    let P : ℕ → Type 0 = λ x. is_text (x ∷ take m z) ≡ true in
    let rest : is_inside false (take m z) ≡ true = subst P e h in
    let most = closes.4 m (omega arith) rest in
    omega (arith, most)

-- a text without a letter before it
quoted : (b : ℕ) (z : List ℕ) (r : Option ℕ) → b ≡ 39 → Closes 1 z r → Best is_text (b ∷ z) r
quoted b z None e closes = quoted_none b z e closes
quoted b z (Some n) e closes =
    let one : n ≡ suc closes.0 = omega (arith, closes.1) in
    best_same is_text (b ∷ z) n (suc closes.0) one (omega arith, omega (arith, closes.2), rw e closes.3, λ m le h. let most = quoted_most b z n e closes m le h in omega (arith, most, one))

lettered_none : (b : ℕ) (z : List ℕ) → (b == 39) ≡ false → Closes 2 z None → (m : ℕ) → m ≤ length (b ∷ 39 ∷ z) → is_text (take m (b ∷ 39 ∷ z)) ≡ false
lettered_none b z e closes zero le = refl
lettered_none b z e closes (suc zero) le = rw e (and_none (b == 78 || b == 110))
lettered_none b z e closes (suc (suc m)) le = rw (e, closes m (omega arith)) (and_none (b == 78 || b == 110))

lettered_most : (b : ℕ) (z : List ℕ) (n : ℕ) → (b == 39) ≡ false → Closes 2 z (Some n) → (m : ℕ) → m ≤ length (b ∷ 39 ∷ z) → is_text (take m (b ∷ 39 ∷ z)) ≡ true → m ≤ n
lettered_most b z n e closes zero le h = omega arith
lettered_most b z n e closes (suc zero) le h = omega (arith, closes.1)
lettered_most b z n e closes (suc (suc m)) le h =
    let P : Bool → Type 0 = λ c. cond c (is_inside false (39 ∷ take m z)) ((b == 78 || b == 110) && is_inside false (take m z)) ≡ true in
    let rest = and_parts (b == 78 || b == 110) (is_inside false (take m z)) (subst P e h) in
    let most = closes.4 m (omega arith) rest.1 in
    omega (arith, most)

-- a text with a letter before it
lettered : (b : ℕ) (z : List ℕ) (r : Option ℕ) → (b == 39) ≡ false → (b == 78 || b == 110) ≡ true → Closes 2 z r → Best is_text (b ∷ 39 ∷ z) r
lettered b z None e letter closes = lettered_none b z e closes
lettered b z (Some n) e letter closes =
    let two : n ≡ suc (suc closes.0) = omega (arith, closes.1) in
    best_same is_text (b ∷ 39 ∷ z) n (suc (suc closes.0)) two (omega arith, omega (arith, closes.2), rw (e, letter, closes.3) refl, λ m le h. let most = lettered_most b z n e closes m le h in omega (arith, most, two))

no_text : (b : ℕ) (z : List ℕ) → (b == 39) ≡ false → ((b == 78 || b == 110) && get_or z 0 0 == 39) ≡ false → (m : ℕ) → is_text (take m (b ∷ z)) ≡ false
no_text b z e f zero = refl
no_text b z e f (suc zero) = rw e (and_none (b == 78 || b == 110))
no_text b [] e f (suc (suc m)) = rw e (and_none (b == 78 || b == 110))
no_text b (d ∷ z) e f (suc (suc m)) =
    rw e (not_true ((b == 78 || b == 110) && (d == 39 && is_inside false (take m z))) (λ h.
    let outer = and_parts (b == 78 || b == 110) (d == 39 && is_inside false (take m z)) h in
    let inner = and_parts (d == 39) (is_inside false (take m z)) outer.1 in
    let both : ((b == 78 || b == 110) && d == 39) ≡ true = rw (outer.0, inner.0) refl in
    cc))

after_letter : (b : ℕ) (z : List ℕ) → (b == 39) ≡ false → ((b == 78 || b == 110) && get_or z 0 0 == 39) ≡ true → Best is_text (b ∷ z) (closing false None 2 (drop 1 z))
after_letter b [] e f = absurd (let both = and_parts (b == 78 || b == 110) (0 == 39) f in let never : (0 == 39) ≡ true = both.1 in cc)
after_letter b (d ∷ z) e f =
    let both = and_parts (b == 78 || b == 110) (d == 39) f in
    let at : 39 ≡ d = grind (arith, nat_tests, both.1) in
    let P : ℕ → Type 0 = λ x. Best is_text (b ∷ x ∷ z) (closing false None 2 z) in
    subst P at (lettered b z (closing false None 2 z) e both.0 (closes_by 2 z (closing false None 2 z) refl))

pub best_text : (b : ℕ) (z : List ℕ) → Best is_text (b ∷ z) (text (b ∷ z))
best_text b z =
    best_if is_text (b ∷ z) (b == 39) (closing false None 1 z) _
    (λ e. let at : b ≡ 39 = grind (arith, nat_tests) in quoted b z (closing false None 1 z) at (closes_by 1 z (closing false None 1 z) refl))
    (λ e. best_if is_text (b ∷ z) ((b == 78 || b == 110) && get_or z 0 0 == 39) (closing false None 2 (drop 1 z)) None
    (after_letter b z e)
    (λ f m le. no_text b z e f m))
