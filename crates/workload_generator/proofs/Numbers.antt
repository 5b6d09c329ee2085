-- Which statement of a session has which number.
use Rattle.std.proofs.Common.{zero, suc, ◌≡◌, ◌∙◌, ◌++◌, ◌+◌, ◌*◌, ◌/◌, ◌%◌, ◌<◌, ◌≤◌, ◌==◌, ℕ, Bool, true, false, List, [], ◌∷◌, length, Some, refl, sym, ap, arith, nat_lt, length-append, true≢false}
use Rattle.std.specs.Prelude.{slice_get, take}
use Rattle.std.proofs.lemmas.List.{take_all, take_more}
use Rattle.std.proofs.lemmas.Option.{get_or_from_slice_get}
use Rattle.workload_generator.specs.Workload.{insert_text, update_text, row_texts, session_texts, statement_count, nth_text}

get_first : {X : Type 0} (xs ys : List X) (n : ℕ) → n < length xs → slice_get (xs ++ ys) n ≡ slice_get xs n
get_first [] ys n h = absurd (omega arith)
get_first (x ∷ xs) ys zero h = refl
get_first (x ∷ xs) ys (suc n) h = get_first xs ys n (omega arith)

get_behind : {X : Type 0} (xs ys : List X) (n k : ℕ) → n ≡ length xs + k → slice_get (xs ++ ys) n ≡ slice_get ys k
get_behind [] ys n k e = let same : n ≡ k = omega arith in rw same refl
get_behind (x ∷ xs) ys zero k e = absurd (omega arith)
get_behind (x ∷ xs) ys (suc n) k e = get_behind xs ys n k (omega arith)

not_nine : (k : ℕ) → (k % 10 == 9) ≡ false → k % 10 ≡ 9 → ⊥
not_nine k e h = let hit : (k % 10 == 9) ≡ true = rw h refl in true≢false (sym hit ∙ e)

pub size : (table rows : ℕ) → length (session_texts table rows) ≡ statement_count rows
unfolding session_texts
size table zero = refl
size table (suc k) = go (k % 10 == 9) refl (size table k)
  where
    go : (b : Bool) → (k % 10 == 9) ≡ b → length (session_texts table k) ≡ k + k / 10
        → length (session_texts table k ++ row_texts table k) ≡ suc k + suc k / 10
    go true e rec =
        let nine : k % 10 ≡ 9 = grind arith in
        let two : length (row_texts table k) ≡ 2 = rw e refl in
        let both : length (session_texts table k ++ row_texts table k) ≡ length (session_texts table k) + length (row_texts table k) = length-append (session_texts table k) (row_texts table k) in
        omega arith
    go false e rec =
        let other : k % 10 ≡ 9 → ⊥ = not_nine k e in
        let one : length (row_texts table k) ≡ 1 = rw e refl in
        let both : length (session_texts table k ++ row_texts table k) ≡ length (session_texts table k) + length (row_texts table k) = length-append (session_texts table k) (row_texts table k) in
        omega arith

at_insert : (table k n : ℕ) → n ≡ k + k / 10 → nth_text table n ≡ insert_text table k
unfolding nth_text
at_insert table k n e =
    let row : n / 11 * 10 + n % 11 ≡ k = omega arith in
    let less : n % 11 < 10 = omega arith in
    let no : (n % 11 == 10) ≡ false = grind arith in
    rw (no, row) refl

at_update : (table k n : ℕ) → k % 10 ≡ 9 → n ≡ k + k / 10 + 1 → nth_text table n ≡ update_text table k
unfolding nth_text
at_update table k n nine e =
    let row : n / 11 * 10 + 9 ≡ k = omega arith in
    let ten : n % 11 ≡ 10 = omega arith in
    let yes : (n % 11 == 10) ≡ true = grind arith in
    rw (yes, row) refl

pub nth : (table rows n : ℕ) → n < statement_count rows → slice_get (session_texts table rows) n ≡ Some (nth_text table n)
unfolding session_texts
nth table zero n h = absurd (omega arith)
nth table (suc k) n h = go (nat_lt n (k + k / 10)) refl (k % 10 == 9) refl (nth table k n)
  where
    s : length (session_texts table k) ≡ k + k / 10
    s = size table k

    behind : (t : Bool) → (k % 10 == 9) ≡ t → k + k / 10 ≤ n → (u : Bool) → nat_lt n (k + k / 10 + 1) ≡ u
        → slice_get (session_texts table k ++ row_texts table k) n ≡ Some (nth_text table n)
    behind t f low true first =
        let here : n ≡ k + k / 10 = grind arith in
        let place : n ≡ length (session_texts table k) + 0 = omega (arith, s) in
        get_behind (session_texts table k) (row_texts table k) n 0 place ∙ ap Some (sym (at_insert table k n here))
    behind true f low false more =
        let nine : k % 10 ≡ 9 = grind arith in
        let past : k + k / 10 + 1 ≤ n = grind arith in
        let here : n ≡ k + k / 10 + 1 = omega arith in
        let place : n ≡ length (session_texts table k) + 1 = omega (arith, s) in
        let second : slice_get (row_texts table k) 1 ≡ Some (update_text table k) = rw f refl in
        get_behind (session_texts table k) (row_texts table k) n 1 place ∙ second ∙ ap Some (sym (at_update table k n nine here))
    behind false f low false more =
        let other : k % 10 ≡ 9 → ⊥ = not_nine k f in
        let past : k + k / 10 + 1 ≤ n = grind arith in
        absurd (omega arith)

    go : (b : Bool) → nat_lt n (k + k / 10) ≡ b → (t : Bool) → (k % 10 == 9) ≡ t
        → (n < k + k / 10 → slice_get (session_texts table k) n ≡ Some (nth_text table n))
        → slice_get (session_texts table k ++ row_texts table k) n ≡ Some (nth_text table n)
    go true e t f rec =
        let low : n < k + k / 10 = grind arith in
        let within : n < length (session_texts table k) = omega (arith, s) in
        get_first (session_texts table k) (row_texts table k) n within ∙ rec low
    go false e t f rec =
        let low : k + k / 10 ≤ n = grind arith in
        behind t f low (nat_lt n (k + k / 10 + 1)) refl

-- so the statements up to there have it as the last
pub one_more : (table rows n : ℕ) → n < statement_count rows → take (n + 1) (session_texts table rows) ≡ take n (session_texts table rows) ++ nth_text table n ∷ []
one_more table rows n h =
    let s = size table rows in
    let texts = session_texts table rows in
    take_more texts n [] (omega (arith, s, h))
    ∙ ap (λ (x : List ℕ). take n texts ++ x ∷ []) (get_or_from_slice_get texts n (nth_text table n) [] (nth table rows n h))

pub all_taken : (table rows n : ℕ) → statement_count rows ≤ n → take n (session_texts table rows) ≡ session_texts table rows
all_taken table rows n h = let s = size table rows in take_all n (session_texts table rows) (omega (arith, s, h))
