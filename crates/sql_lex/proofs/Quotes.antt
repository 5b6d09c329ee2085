-- The closing quote that is found is the last that can close the text.
use Rattle.std.proofs.Common.{◌≡◌, ℕ, zero, suc, ◌+◌, ◌≤◌, Bool, true, false, cond, eqb, ◌&&◌, List, [], ◌∷◌, length, take, Option, Some, None, refl, subst, arith, ◌⊎◌, inl, inr}
use Rattle.sql_lex.specs.Front.{closing}
use Rattle.sql_lex.specs.IsToken.{is_inside}

-- a second quote is preceded by one that can close the text here
abbrev Best : Bool → Option ℕ → ℕ → Type 0
Best true best at = best ≡ Some at
Best false best at = Unit {0}

-- what was found is at least as far as the best so far
abbrev AtLeast : Option ℕ → Option ℕ → Type 0
AtLeast None r = Unit {0}
AtLeast (Some m) r = (n : ℕ) × (r ≡ Some n) × (m ≤ n)

refl_least : (b : Option ℕ) → AtLeast b b
refl_least None = tt
refl_least (Some m) = (m, refl, omega arith)

abbrev IsAtMost : Option ℕ → ℕ → Type 0
IsAtMost None at = Unit {0}
IsAtMost (Some m) at = m ≤ at

cond_least : (c : Bool) (best x y : Option ℕ) → AtLeast best x → AtLeast best y → AtLeast best (cond c x y)
cond_least true best x y a b = a
cond_least false best x y a b = b

over_least : (best : Option ℕ) (at : ℕ) (r : Option ℕ) → IsAtMost best at → AtLeast (Some (at + 1)) r → AtLeast best r
over_least None at r below k = tt
over_least (Some m) at r below k = (k.0, k.1, omega (arith, k.2))

more_at_most : (best : Option ℕ) (at : ℕ) → IsAtMost best at → IsAtMost best (at + 1)
more_at_most None at below = tt
more_at_most (Some m) at below = omega arith

never_back : (is_second : Bool) (best : Option ℕ) (at : ℕ) (z : List ℕ) → IsAtMost best at → AtLeast best (closing is_second best at z)
never_back is_second best at [] below = refl_least best
never_back true best at (b ∷ z) below =
    cond_least (eqb b 39) best _ _ (never_back false best (at + 1) z (more_at_most best at below)) (refl_least best)
never_back false best at (b ∷ z) below =
    cond_least (eqb b 39) best _ _ (over_least best at _ below (never_back true (Some (at + 1)) (at + 1) z (omega arith))) (never_back false best (at + 1) z (more_at_most best at below))

abbrev Covers : ℕ → Option ℕ → Type 0
Covers m r = (n : ℕ) × (r ≡ Some n) × (m ≤ n)

at_best : (is_second : Bool) (best : Option ℕ) (at : ℕ) (r : Option ℕ) → Best is_second best at → is_second ≡ true → AtLeast best r → Covers (at + 0) r
at_best false best at r is h k = cc
at_best true best at r is h k =
    let l : AtLeast (Some at) r = subst (λ z. AtLeast z r) is k in
    (l.0, l.1, omega (arith, l.2))

moved_by_one : (at m : ℕ) (r : Option ℕ) → Covers (at + 1 + m) r → Covers (at + suc m) r
moved_by_one at m r k = (k.0, k.1, omega (arith, k.2))

second_step : (c : Bool) (at m : ℕ) (x y : Option ℕ) (i : Bool) → (i ≡ true → Covers (at + 1 + m) x) → (c && i) ≡ true → Covers (at + suc m) (cond c x y)
second_step false at m x y i k h = cc
second_step true at m x y i k h = moved_by_one at m x (k h)

first_step : (c : Bool) (at m : ℕ) (x y : Option ℕ) (i j : Bool) → (i ≡ true → Covers (at + 1 + m) x) → (j ≡ true → Covers (at + 1 + m) y) → cond c i j ≡ true → Covers (at + suc m) (cond c x y)
first_step true at m x y i j k l h = moved_by_one at m x (k h)
first_step false at m x y i j k l h = moved_by_one at m y (l h)

-- No more bytes are the rest of a text than those that were found.
pub covers : (is_second : Bool) (best : Option ℕ) (at : ℕ) (z : List ℕ) (m : ℕ) → IsAtMost best at → Best is_second best at → m ≤ length z → is_inside is_second (take m z) ≡ true → Covers (at + m) (closing is_second best at z)
covers is_second best at [] zero below is within h = at_best is_second best at _ is h (refl_least best)
covers is_second best at [] (suc m) below is within h = absurd (omega arith)
covers is_second best at (b ∷ z) zero below is within h = at_best is_second best at _ is h (never_back is_second best at (b ∷ z) below)
covers true best at (b ∷ z) (suc m) below is within h =
    second_step (eqb b 39) at m _ _ (is_inside false (take m z)) (λ i. covers false best (at + 1) z m (more_at_most best at below) tt (omega arith) i) h
covers false best at (b ∷ z) (suc m) below is within h =
    first_step (eqb b 39) at m _ _ (is_inside true (take m z)) (is_inside false (take m z))
    (λ i. covers true (Some (at + 1)) (at + 1) z m (omega arith) refl (omega arith) i)
    (λ i. covers false best (at + 1) z m (more_at_most best at below) tt (omega arith) i) h

-- What was found is the best so far, or so many bytes that are the rest of a text.
abbrev Ends : Bool → Option ℕ → ℕ → List ℕ → ℕ → Type 0
Ends is_second best at z n = (best ≡ Some n) ⊎ ((m : ℕ) × (n ≡ at + m) × (m ≤ length z) × (is_inside is_second (take m z) ≡ true))

the_number : (a b : ℕ) → ◌≡◌ {A = Option ℕ} (Some a) (Some b) → a ≡ b
the_number a b h = cc

second_ends : (c : Bool) (best : Option ℕ) (at b n : ℕ) (z : List ℕ) → eqb b 39 ≡ c → (closing false best (at + 1) z ≡ Some n → Ends false best (at + 1) z n) → cond c (closing false best (at + 1) z) best ≡ Some n → Ends true best at (b ∷ z) n
second_ends false best at b n z e again h = inl h
second_ends true best at b n z e again h =
    elim (again h) [ inl k ↦ inl k | inr k ↦ inr (suc k.0, omega (arith, k.1), omega (arith, k.2), rw (e, k.3) refl) ]

first_ends : (c : Bool) (best : Option ℕ) (at b n : ℕ) (z : List ℕ) → eqb b 39 ≡ c → (closing true (Some (at + 1)) (at + 1) z ≡ Some n → Ends true (Some (at + 1)) (at + 1) z n)
    → (closing false best (at + 1) z ≡ Some n → Ends false best (at + 1) z n) → cond c (closing true (Some (at + 1)) (at + 1) z) (closing false best (at + 1) z) ≡ Some n → Ends false best at (b ∷ z) n
first_ends true best at b n z e again other h =
    elim (again h) [
      | inl k ↦ inr (suc zero, omega (arith, the_number (at + 1) n k), omega arith, rw e refl)
      | inr k ↦ inr (suc k.0, omega (arith, k.1), omega (arith, k.2), rw (e, k.3) refl)
    ]
first_ends false best at b n z e again other h =
    elim (other h) [ inl k ↦ inl k | inr k ↦ inr (suc k.0, omega (arith, k.1), omega (arith, k.2), rw (e, k.3) refl) ]

pub finds : (is_second : Bool) (best : Option ℕ) (at : ℕ) (z : List ℕ) (n : ℕ) → closing is_second best at z ≡ Some n → Ends is_second best at z n
finds is_second best at [] n h = inl h
finds true best at (b ∷ z) n h = second_ends (eqb b 39) best at b n z refl (finds false best (at + 1) z n) h
finds false best at (b ∷ z) n h = first_ends (eqb b 39) best at b n z refl (finds true (Some (at + 1)) (at + 1) z n) (finds false best (at + 1) z n) h
