-- Runs of bytes that pass a test.
use Rattle.std.proofs.Common.{◌≡◌, ℕ, zero, suc, ◌+◌, ◌<◌, ◌≤◌, Bool, true, false, cond, ◌&&◌, ◌||◌, List, [], ◌∷◌, length, take, refl, arith}
use Rattle.std.proofs.lemmas.Bool.{and_parts}
use Rattle.std.specs.List.{list_all, prefix_len}

pub or_false : (a b : Bool) → (a || b) ≡ false → (a ≡ false) × (b ≡ false)
or_false true b h = cc
or_false false b h = (refl, h)

pub not_true : (b : Bool) → (b ≡ true → ⊥) → b ≡ false
not_true true never = absurd (never refl)
not_true false never = refl

module _ (p : ℕ → Bool) where
  -- no longer beginning passes than the run
  pub run_bound : (z : List ℕ) (m : ℕ) → m ≤ length z → list_all p (take m z) ≡ true → m ≤ prefix_len p z
  run_bound [] m within all = omega arith
  run_bound (b ∷ z) zero within all = omega arith
  run_bound (b ∷ z) (suc m) within all =
      let both = and_parts (p b) (list_all p (take m z)) all in
      let rest = run_bound z m (omega arith) both.1 in
      rw both.0 (omega (arith, rest))

  run_passes_at : (b : ℕ) (z : List ℕ) (k : ℕ) (c : Bool) → p b ≡ c → (k ≤ prefix_len p z → list_all p (take k z) ≡ true) → suc k ≤ cond c (1 + prefix_len p z) 0 → (p b && list_all p (take k z)) ≡ true
  run_passes_at b z k false e rest le = absurd (omega arith)
  run_passes_at b z k true e rest le = rw (e, rest (omega arith)) refl

  -- each part of the run passes
  pub run_passes : (z : List ℕ) (k : ℕ) → k ≤ prefix_len p z → list_all p (take k z) ≡ true
  run_passes [] zero le = refl
  run_passes [] (suc k) le = refl
  run_passes (b ∷ z) zero le = refl
  run_passes (b ∷ z) (suc k) le = run_passes_at b z k (p b) refl (run_passes z k) le

  run_of_part_at : (k n j : ℕ) (c : Bool) → (j ≤ n → k ≡ j) → suc j ≤ cond c (1 + n) 0 → cond c (1 + k) 0 ≡ suc j
  run_of_part_at k n j false rest le = absurd (omega arith)
  run_of_part_at k n j true rest le = let e = rest (omega arith) in omega (arith, e)

  -- the run of a part of the run is the part
  pub run_of_part : (z : List ℕ) (m : ℕ) → m ≤ prefix_len p z → prefix_len p (take m z) ≡ m
  run_of_part [] zero le = refl
  run_of_part [] (suc m) le = absurd (omega arith)
  run_of_part (b ∷ z) zero le = refl
  run_of_part (b ∷ z) (suc m) le = run_of_part_at (prefix_len p (take m z)) (prefix_len p z) m (p b) (run_of_part z m) le

  run_of_more_at : (k n m : ℕ) (c : Bool) → (n < m → k ≡ n) → cond c (1 + n) 0 < suc m → cond c (1 + k) 0 ≡ cond c (1 + n) 0
  run_of_more_at k n m false rest lt = refl
  run_of_more_at k n m true rest lt = let e = rest (omega arith) in omega (arith, e)

  -- the run of more than the run is the run
  pub run_of_more : (z : List ℕ) (m : ℕ) → prefix_len p z < m → prefix_len p (take m z) ≡ prefix_len p z
  run_of_more [] zero lt = refl
  run_of_more [] (suc m) lt = refl
  run_of_more (b ∷ z) zero lt = absurd (omega arith)
  run_of_more (b ∷ z) (suc m) lt = run_of_more_at (prefix_len p (take m z)) (prefix_len p z) m (p b) (run_of_more z m) lt
