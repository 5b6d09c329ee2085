-- Where a text is cut at blanks.
use Rattle.std.proofs.Common.{◌≡◌, ◌≤◌, ◌<◌, ◌+◌, ℕ, zero, suc, true, List, length, get_or, refl, subst, arith, IsUtf8}
use Rattle.std.specs.List.{prefix_len}
use Rattle.std.specs.Str.{IsCharBoundary}
use Rattle.std.proofs.lemmas.Bool.Decides.{nat_tests}
use Rattle.std.proofs.lemmas.Str.{IsCharBoundary-start, IsCharBoundary-after_ascii}
use Rattle.std.proofs.lemmas.List.Sums.{prefix_len_passes, prefix_len-le-length}
use Rattle.format_lines.specs.Line.{is_blank}

pub blank_small : (b : ℕ) → is_blank b ≡ true → b < 128
blank_small b e = grind (arith, nat_tests)

boundary_at : (z : List ℕ) (n : ℕ) → IsUtf8 z → prefix_len is_blank z ≡ n → IsCharBoundary z n
boundary_at z zero utf8 e = IsCharBoundary-start z utf8
boundary_at z (suc n) utf8 e =
    let within = prefix_len-le-length is_blank z in
    let small = blank_small (get_or z n 0) (prefix_len_passes is_blank z n 0 (omega arith)) in
    let next : n + 1 ≡ suc n = omega arith in
    subst (IsCharBoundary z) next (IsCharBoundary-after_ascii z n utf8 (omega arith) small)

-- a character begins behind the blanks at the front
pub front_boundary : (z : List ℕ) → IsUtf8 z → IsCharBoundary z (prefix_len is_blank z)
front_boundary z utf8 = boundary_at z (prefix_len is_blank z) utf8 refl

-- a text may be cut before a blank
pub blank_boundary : (z : List ℕ) (n : ℕ) → n ≤ length z → (n < length z → is_blank (get_or z n 0) ≡ true) → IsCharBoundary z n
blank_boundary z n within blank = (within, λ l h. absurd (small_not (blank_small (get_or z n 0) (blank l)) h))
  where
    small_not : {b : ℕ} → b < 128 → 128 ≤ b → ⊥
    small_not l h = omega arith
