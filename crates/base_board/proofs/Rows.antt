-- Lists read by place: one place changed, sums, a row of zeros, and cells that are out.
use Rattle.std.proofs.Common.{◌≡◌, ◌≢◌, ℕ, zero, suc, ◌+◌, ◌<◌, ◌≤◌, List, [], ◌∷◌, length, get_or, set, refl, sym, ap, ◌∙◌, subst, arith, get_or-set_other, get_or-set_same, take, replicate}
use Rattle.std.specs.Prelude.{sum_by}
use Rattle.std.proofs.lemmas.List.Sums.{sum_by-cons}
use mathlib.Core.Logic.{dite}
use mathlib.Core.Option.{some, some-injective, some-ne-none}
use native.Mathlib.Decide.{ℕ_discrete}
use lib.ListN.{get_elem?}
use Rattle.atomic_table.specs.Table.{rest}
pub use Rattle.atomic_table.proofs.Lists.{at_set, at_snoc, at_map, set_again, set_else}
use Rattle.base_board.specs.Outs.{OutsAreIn, AllBelow, IsLastOut}

module _ {A : Type 0} where
  pub set_at : (l : List A) (i : ℕ) (a b : A) → get_elem? l i ≡ some a → get_elem? (set l i b) i ≡ some b
  set_at [] i a b e = absurd (some-ne-none a (sym e))
  set_at (x ∷ xs) zero a b e = refl
  set_at (x ∷ xs) (suc i) a b e = set_at xs i a b e

  pub set_there : (l : List A) (i : ℕ) (b : A) → i < length l → get_elem? (set l i b) i ≡ some b
  set_there [] i b h = absurd (omega arith)
  set_there (x ∷ xs) zero b h = refl
  set_there (x ∷ xs) (suc i) b h = set_there xs i b (omega arith)

  pub one_there : (l : List A) (i : ℕ) (a b : A) → get_elem? l i ≡ some a → get_elem? l i ≡ some b → a ≡ b
  one_there l i a b p q = some-injective a b (sym p ∙ q)

  pub sum_set : (f : A → ℕ) (l : List A) (i : ℕ) (v w : A) → get_elem? l i ≡ some v → sum_by f (set l i w) + f v ≡ sum_by f l + f w
  sum_set f [] i v w e = absurd (some-ne-none v (sym e))
  sum_set f (x ∷ xs) zero v w e = omega (arith, sum_by-cons f x xs, sum_by-cons f w xs, ap f (some-injective x v e))
  sum_set f (x ∷ xs) (suc i) v w e = omega (arith, sum_by-cons f x xs, sum_by-cons f x (set xs i w), sum_set f xs i v w e)

module _ {C : Type 0} where
  pub below_out : (n : ℕ) (out : List (ℕ × C)) (k i : ℕ) (c : C) → AllBelow n out → get_elem? out k ≡ some (i, c) → i < n
  below_out n [] k i c b e = absurd (some-ne-none (i, c) (sym e))
  below_out n (x ∷ xs) zero i c b e = subst (λ (y : ℕ × C). y.0 < n) (some-injective x (i, c) e) b.0
  below_out n (x ∷ xs) (suc k) i c b e = below_out n xs k i c b.1 e

  -- a cell changes that none of them is
  pub outs_set : (cells : List C) (i : ℕ) (c : C) (out : List (ℕ × C)) → ((k j : ℕ) (d : C) → get_elem? out k ≡ some (j, d) → j ≢ i) → OutsAreIn cells out → OutsAreIn (set cells i c) out
  outs_set cells i c [] apart h = tt
  outs_set cells i c (x ∷ xs) apart h = (set_else cells i x.0 c (apart 0 x.0 x.1 refl) ∙ h.0, outs_set cells i c xs (λ k j d e. apart (suc k) j d e) h.1)

  -- the last that was taken, with its cell
  pub last_out : (i : ℕ) (out : List (ℕ × C)) → IsLastOut i out → (c : C) × (out ≡ (i, c) ∷ rest out)
  last_out i [] h = absurd h
  last_out i (x ∷ xs) h = (x.1, λ k. (h k, x.1) ∷ xs)

-- a word that isn't 0 stays so where one word becomes m
pub set_away : (ws : List ℕ) (i k m : ℕ) → m ≢ 0 → i < length ws → get_or ws k 0 ≢ 0 → get_or (set ws i m) k 0 ≢ 0
set_away ws i k m some_mark near away = dite (ℕ_discrete k i)
    (λ e q. some_mark (sym (get_or-set_same ws i m 0 near) ∙ subst (λ (z : ℕ). get_or (set ws i m) z 0 ≡ 0) e q))
    (λ ne q. away (sym (get_or-set_other ws i k m 0 ne) ∙ q))

nothing_at : (i : ℕ) → get_or {A = ℕ} [] i 0 ≡ 0
nothing_at zero = refl
nothing_at (suc i) = refl

-- a row of zeros
pub zero_at : (n k i : ℕ) → get_or {A = ℕ} (take n (replicate {A = ℕ} k 0)) i 0 ≡ 0
zero_at zero k i = nothing_at i
zero_at (suc n) zero i = nothing_at i
zero_at (suc n) (suc k) zero = refl
zero_at (suc n) (suc k) (suc i) = zero_at n k i

pub zeros_long : (n k : ℕ) → n ≤ k → length (take n (replicate {A = ℕ} k 0)) ≡ n
zeros_long zero k h = refl
zeros_long (suc n) zero h = absurd (omega arith)
zeros_long (suc n) (suc k) h = ap suc (zeros_long n k (omega arith))
