-- What holds of each of the four tables holds of all.
use Rattle.std.proofs.Common.{ℕ, zero, suc, ◌≤◌, arith}

pub by_table : (P : ℕ → Type 0) → P 1 → P 2 → P 3 → P 4 → (table : ℕ) → 1 ≤ table → table ≤ 4 → P table
by_table P a b c d zero some few = absurd (omega arith)
by_table P a b c d (suc zero) some few = a
by_table P a b c d (suc (suc zero)) some few = b
by_table P a b c d (suc (suc (suc zero))) some few = c
by_table P a b c d (suc (suc (suc (suc zero)))) some few = d
by_table P a b c d (suc (suc (suc (suc (suc n))))) some few = absurd (omega arith)
