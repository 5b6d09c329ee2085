-- The longest bytes.
use Rattle.std.proofs.Common.{◌≡◌, ℕ, zero, suc, ◌+◌, ◌-◌, ◌%◌, ◌≤◌, ◌==◌, true, false, ◌&&◌, ◌||◌, List, [], ◌∷◌, length, take, Some, None, refl, arith}
use Rattle.std.proofs.lemmas.Bool.{and_parts}
use Rattle.std.proofs.lemmas.Bool.Decides.{nat_tests}
use Rattle.std.proofs.lemmas.List.{length-take-le}
use Rattle.std.proofs.lemmas.List.Sums.{prefix_len-le-length}
use Rattle.std.specs.List.{list_all, prefix_len}
use Rattle.std.specs.Char.{is_ascii_hexdigit}
use Rattle.sql_lex.specs.IsToken.{is_bytes}
use Rattle.sql_lex.specs.Front.{bytes}
use Rattle.sql_lex.proofs.Runs.{run_bound, run_passes}
use Rattle.sql_lex.proofs.Best.{Best, best_same, best_if}

even_below : (j d : ℕ) → j ≤ d → j % 2 ≡ 0 → j ≤ d - d % 2
even_below j d le even = omega (arith, le, even)

even_of : (d : ℕ) → (d - d % 2) % 2 ≡ 0
even_of d = omega arith

bytes_none : (b : ℕ) (m : ℕ) → is_bytes (take m (b ∷ [])) ≡ false
bytes_none b zero = refl
bytes_none b (suc zero) = refl
bytes_none b (suc (suc m)) = refl

bytes_not : (b x : ℕ) (z : List ℕ) → (b == 48 && (x == 120 || x == 88)) ≡ false → (m : ℕ) → is_bytes (take m (b ∷ x ∷ z)) ≡ false
bytes_not b x z e zero = refl
bytes_not b x z e (suc zero) = refl
bytes_not b x z e (suc (suc m)) = rw e refl

bytes_most : (b x : ℕ) (z : List ℕ) (m : ℕ) → m ≤ length (b ∷ x ∷ z) → is_bytes (take m (b ∷ x ∷ z)) ≡ true → m ≤ suc (suc (prefix_len is_ascii_hexdigit z - prefix_len is_ascii_hexdigit z % 2))
bytes_most b x z zero le h = omega arith
bytes_most b x z (suc zero) le h = omega arith
bytes_most b x z (suc (suc m)) le h =
    let last = and_parts ((b == 48 && (x == 120 || x == 88)) && list_all is_ascii_hexdigit (take m z)) (length (take m z) % 2 == 0) h in
    let first = and_parts (b == 48 && (x == 120 || x == 88)) (list_all is_ascii_hexdigit (take m z)) last.0 in
    let len = length-take-le m z (omega arith) in
    let even : m % 2 ≡ 0 = grind (arith, nat_tests, len, last.1) in
    let run = run_bound is_ascii_hexdigit z m (omega arith) first.1 in
    let below = even_below m (prefix_len is_ascii_hexdigit z) run even in
    omega (arith, below)

bytes_are : (b x : ℕ) (z : List ℕ) → (b == 48 && (x == 120 || x == 88)) ≡ true → Best is_bytes (b ∷ x ∷ z) (Some (suc (suc (prefix_len is_ascii_hexdigit z - prefix_len is_ascii_hexdigit z % 2))))
bytes_are b x z e =
    let run = prefix_len-le-length is_ascii_hexdigit z in
    let k : ℕ = prefix_len is_ascii_hexdigit z - prefix_len is_ascii_hexdigit z % 2 in
    let part : k ≤ prefix_len is_ascii_hexdigit z = omega arith in
    let len : length (take k z) ≡ k = length-take-le k z (omega (arith, part, run)) in
    let even : length (take k z) % 2 ≡ 0 = rw len (even_of (prefix_len is_ascii_hexdigit z)) in (
      (omega arith),
      (omega (arith, part, run)),
      (rw (e, run_passes is_ascii_hexdigit z k part, even) refl),
      bytes_most b x z,
    )

pub best_bytes : (b : ℕ) (z : List ℕ) → Best is_bytes (b ∷ z) (bytes (b ∷ z))
best_bytes b [] =
    best_if is_bytes (b ∷ []) (b == 48 && (0 == 120 || 0 == 88)) _ None
    (λ e. absurd (let both = and_parts (b == 48) (0 == 120 || 0 == 88) e in let never : (0 == 120 || 0 == 88) ≡ true = both.1 in cc))
    (λ e m le. bytes_none b m)
best_bytes b (x ∷ z) =
    best_if is_bytes (b ∷ x ∷ z) (b == 48 && (x == 120 || x == 88)) _ None
    (λ e.
    let d : ℕ = prefix_len is_ascii_hexdigit z in
    let same : 2 + (2 + prefix_len is_ascii_hexdigit z - 2) - (2 + prefix_len is_ascii_hexdigit z - 2) % 2 ≡ suc (suc (prefix_len is_ascii_hexdigit z - prefix_len is_ascii_hexdigit z % 2)) = omega arith in
    best_same is_bytes (b ∷ x ∷ z) _ _ same (bytes_are b x z e))
    (λ e m le. bytes_not b x z e m)
