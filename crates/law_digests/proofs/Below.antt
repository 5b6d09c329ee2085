-- Sums over the numbers below a bound.
use Rattle.std.proofs.Common.{◌≡◌, ◌≢◌, ℕ, zero, suc, ◌+◌, ◌<◌, ◌≤◌, List, [], ◌∷◌, length, refl, ap, arith, ⊎_elim}
use Rattle.std.specs.Prelude.{◌==◌}
use Rattle.std.proofs.lemmas.Bool.{eq-eqb, ne_eqb, cases_eq}
use Rattle.spec_history.specs.Digests.{Digest, one_if, of_block}
use Rattle.spec_history.specs.Lists.{Each}

-- what the function gives for each number below k, together
abbrev pub below : ℕ → (ℕ → ℕ) → ℕ
below zero f = 0
below (suc k) f = f k + below k f

pub below_same : (k : ℕ) (f g : ℕ → ℕ) → ((b : ℕ) → f b ≡ g b) → below k f ≡ below k g
below_same zero f g same = refl
below_same (suc k) f g same = let rest = below_same k f g same in let one = same k in omega (arith, rest, one)

pub below_both : (k : ℕ) (f g : ℕ → ℕ) → below k (λ b. f b + g b) ≡ below k f + below k g
below_both zero f g = refl
below_both (suc k) f g = let rest = below_both k f g in omega (arith, rest)

pub below_none : (k : ℕ) (f : ℕ → ℕ) → ((b : ℕ) → f b ≡ 0) → below k f ≡ 0
below_none zero f none = refl
below_none (suc k) f none = let rest = below_none k f none in let one = none k in omega (arith, rest, one)

-- ---- one number

abbrev is_it : ℕ → ℕ → ℕ
is_it n b = one_if (n == b)

it_is : (n k : ℕ) → n ≡ k → is_it n k ≡ 1
it_is n k same = ap (λ t. one_if t) (eq-eqb n k same)

it_isnt : (n k : ℕ) → n ≢ k → is_it n k ≡ 0
it_isnt n k other = ap (λ t. one_if t) (ne_eqb n k other)

-- it isn't below k
past : (n k : ℕ) → k ≤ n → below k (is_it n) ≡ 0
past n zero le = refl
past n (suc k) le =
    let other : n ≢ k = λ same. absurd (omega (arith, same, le)) in
    let rest = past n k (omega (arith, le)) in
    let none = it_isnt n k other in
    omega (arith, rest, none)

-- it is
once : (n k : ℕ) → n < k → below k (is_it n) ≡ 1
once n zero lt = absurd (omega (arith, lt))
once n (suc k) lt = ⊎_elim
    (λ (same : n ≡ k). let rest = past n k (omega (arith, same)) in let one = it_is n k same in omega (arith, rest, one))
    (λ (other : n ≢ k). let rest = once n k (before n k lt other) in let none = it_isnt n k other in omega (arith, rest, none))
    (cases_eq n k)
  where
    before : (n k : ℕ) → n < suc k → n ≢ k → n < k
    before n k lt other = omega (arith, lt, other)

pub at_most_once : (n k : ℕ) → below k (is_it n) ≤ 1
at_most_once n zero = omega arith
at_most_once n (suc k) = ⊎_elim
    (λ (same : n ≡ k). let rest = past n k (omega (arith, same)) in let one = it_is n k same in omega (arith, rest, one))
    (λ (other : n ≢ k). let rest = at_most_once n k in let none = it_isnt n k other in omega (arith, rest, none))
    (cases_eq n k)

-- ---- digests

-- of digests of blocks below k each is counted once
pub all_counted : (k : ℕ) (G : List Digest) → Each (λ d. d.block < k) G → below k (λ b. of_block b G) ≡ length G
all_counted k [] within = below_none k (λ b. 0) (λ b. refl)
all_counted k (d ∷ G) within =
    let rest = all_counted k G within.1 in
    let one = once d.block k within.0 in
    let both = below_both k (is_it d.block) (λ b. of_block b G) in
    omega (arith, rest, one, both)
