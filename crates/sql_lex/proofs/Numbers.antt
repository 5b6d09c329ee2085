-- The longest number.
use Rattle.std.proofs.Common.{◌≡◌, ℕ, zero, suc, ◌+◌, ◌-◌, ◌<◌, ◌≤◌, ◌==◌, ◌⊎◌, inl, inr, Bool, true, false, ◌&&◌, List, [], ◌∷◌, length, take, drop, get_or, min, nat_lt, nat_le, Some, None, refl, ap, sym, ◌∙◌, subst, arith}
use Rattle.std.proofs.lemmas.Bool.{and_parts}
use Rattle.std.proofs.lemmas.Bool.Decides.{nat_tests}
use Rattle.std.proofs.lemmas.List.{length-take-le, length-drop, drop-take, drop-drop, get_or-drop}
use Rattle.std.proofs.lemmas.List.Sums.{prefix_len-le-length, prefix_len_passes}
use Rattle.std.specs.List.{list_all, prefix_len}
use Rattle.std.specs.Char.{is_ascii_digit}
use Rattle.sql_lex.specs.IsToken.{is_fraction, is_number}
use Rattle.sql_lex.specs.Front.{number}
use Rattle.sql_lex.proofs.Runs.{not_true, run_bound, run_passes, run_of_part, run_of_more}
use Rattle.sql_lex.proofs.Best.{Best, best_if}

abbrev run : List ℕ → ℕ
run z = prefix_len is_ascii_digit z

abbrev whole : List ℕ → ℕ
whole z = min 38 (run z)

abbrev has_point : List ℕ → Bool
has_point z = nat_lt (whole z) 38 && get_or z (whole z) 0 == 46 && is_ascii_digit (get_or z (whole z + 1) 0)

-- so many bytes are digits
record IsWhole (z : List ℕ) (m : ℕ) : Type 0 where
  some : 1 ≤ m
  few : m ≤ 38
  inside : m ≤ run z

-- so many bytes are digits, '.' and digits
record IsPointed (z : List ℕ) (m : ℕ) : Type 0 where
  behind : ℕ
  size : m ≡ suc (run z + behind)
  some : 1 ≤ behind
  few : run z + behind ≤ 38
  inside : behind ≤ run (drop (run z + 1) z)
  point : get_or z (run z) 0 ≡ 46

-- digits behind a point
record IsBehind (n : ℕ) (r : List ℕ) (k : ℕ) : Type 0 where
  point : get_or r 0 0 ≡ 46
  some : 1 ≤ k
  few : n + k ≤ 38
  inside : k ≤ run (drop 1 r)

fraction_is : (n : ℕ) (r : List ℕ) (k : ℕ) → suc k ≤ length r → is_fraction n (take (suc k) r) ≡ true → IsBehind n r k
fraction_is n [] k le h = absurd (omega arith)
fraction_is n (b ∷ r) k le h =
    let a = and_parts (b == 46 && nat_lt 0 (length (take k r)) && list_all is_ascii_digit (take k r)) (nat_le (n + length (take k r)) 38) h in
    let c = and_parts (b == 46 && nat_lt 0 (length (take k r))) (list_all is_ascii_digit (take k r)) a.0 in
    let d = and_parts (b == 46) (nat_lt 0 (length (take k r))) c.0 in
    let len = length-take-le k r (omega arith) in
    record {
      point = grind (arith, nat_tests, d.0);
      some = grind (arith, nat_tests, d.1, len);
      few = grind (arith, nat_tests, a.1, len);
      inside = run_bound is_ascii_digit r k (omega arith) c.1;
    }

is_a_fraction : (n : ℕ) (r : List ℕ) (k : ℕ) → suc k ≤ length r → IsBehind n r k → is_fraction n (take (suc k) r) ≡ true
is_a_fraction n [] k le is = absurd (omega arith)
is_a_fraction n (b ∷ r) k le is =
    let len = length-take-le k r (omega arith) in
    let point : (b == 46) ≡ true = grind (arith, nat_tests, is.point) in
    let some : nat_lt 0 (length (take k r)) ≡ true = grind (arith, nat_tests, is.some, len) in
    let few : nat_le (n + length (take k r)) 38 ≡ true = grind (arith, nat_tests, is.few, len) in
    rw (point, some, run_passes is_ascii_digit r k is.inside, few) refl

nothing_left : (m : ℕ) (z : List ℕ) → drop m (take m z) ≡ []
nothing_left m z = let e : m + 0 ≡ m = omega arith in ap (λ x. drop m (take x z)) (sym e) ∙ drop-take m 0 z

part_left : (n k m : ℕ) (z : List ℕ) → m ≡ n + k → drop n (take m z) ≡ take k (drop n z)
part_left n k m z e = ap (λ x. drop n (take x z)) e ∙ drop-take n k z

-- within the digits a number has digits alone
whole_is : (z : List ℕ) (m : ℕ) → m ≤ run z → is_number (take m z) ≡ (nat_lt 0 m && nat_le m 38)
whole_is z m le = ap (λ x. is_fraction x (drop x (take m z))) (run_of_part is_ascii_digit z m le) ∙ ap (λ x. is_fraction m x) (nothing_left m z)

-- past the digits it has a point behind them
pointed_is : (z : List ℕ) (k m : ℕ) → m ≡ run z + suc k → is_number (take m z) ≡ is_fraction (run z) (take (suc k) (drop (run z) z))
pointed_is z k m e =
    ap (λ x. is_fraction x (drop x (take m z))) (run_of_more is_ascii_digit z m (omega (arith, e))) ∙ ap (λ x. is_fraction (run z) x) (part_left (run z) (suc k) m z e)

at_drop : (n : ℕ) (z : List ℕ) → get_or (drop n z) 0 0 ≡ get_or z n 0
at_drop n z = let e : n + 0 ≡ n = omega arith in get_or-drop n z 0 0 ∙ ap (λ x. get_or z x 0) e

behind_point : (z : List ℕ) (k m : ℕ) → m ≡ run z + suc k → IsBehind (run z) (drop (run z) z) k → IsPointed z m
behind_point z k m e is =
    record {
      behind = k;
      size = omega (arith, e);
      some = is.some;
      few = is.few;
      inside = rw (← drop-drop 1 (run z) z) is.inside;
      point = sym (at_drop (run z) z) ∙ is.point;
    }

number_at : (z : List ℕ) (m : ℕ) (c : Bool) → nat_le m (run z) ≡ c → m ≤ length z → is_number (take m z) ≡ true → IsWhole z m ⊎ IsPointed z m
number_at z m true e le h =
    let inside : m ≤ run z = grind (arith, nat_tests) in
    let both = and_parts (nat_lt 0 m) (nat_le m 38) (sym (whole_is z m inside) ∙ h) in
    inl (record { some = grind (arith, nat_tests, both.0); few = grind (arith, nat_tests, both.1); inside = inside })
number_at z m false e le h =
    let past : run z < m = grind (arith, nat_tests) in
    let size : m ≡ run z + suc (m - run z - 1) = omega arith in
    let len = length-drop (run z) z in
    inr (behind_point z (m - run z - 1) m size (fraction_is (run z) (drop (run z) z) (m - run z - 1) (omega (arith, len)) (sym (pointed_is z (m - run z - 1) m size) ∙ h)))

number_is : (z : List ℕ) (m : ℕ) → m ≤ length z → is_number (take m z) ≡ true → IsWhole z m ⊎ IsPointed z m
number_is z m le h = number_at z m (nat_le m (run z)) refl le h

digit_within : (z : List ℕ) (i : ℕ) → is_ascii_digit (get_or z i 0) ≡ true → i < length z
digit_within [] i h = cc
digit_within (b ∷ z) zero h = omega arith
digit_within (b ∷ z) (suc i) h = let rest = digit_within z i h in omega (arith, rest)

-- a number with a point shows it where the code looks
point_shows : (z : List ℕ) (m : ℕ) → IsPointed z m → has_point z ≡ true
point_shows z m is =
    let n : whole z ≡ run z = omega (arith, is.few, is.some) in
    let less : nat_lt (run z) 38 ≡ true = grind (arith, nat_tests, is.few, is.some) in
    let digit : is_ascii_digit (get_or z (run z + 1) 0) ≡ true = rw (← at_drop (run z + 1) z) (prefix_len_passes is_ascii_digit (drop (run z + 1) z) 0 0 (omega (arith, is.some, is.inside))) in
    rw (n, less, is.point, digit) refl

digit_run : (z : List ℕ) → is_ascii_digit (get_or z 0 0) ≡ true → 1 ≤ run z
digit_run [] h = cc
digit_run (b ∷ z) h = rw h (omega arith)

number_most : (z : List ℕ) (m : ℕ) → m ≤ length z → is_number (take m z) ≡ true → m ≤ whole z + 1 + min (38 - whole z) (run (drop (whole z + 1) z))
number_most z m le h =
    elim (number_is z m le h) [
      | inl is ↦ omega (arith, is.few, is.inside)
      | inr is ↦ (
          let n : whole z ≡ run z = omega (arith, is.few, is.some) in
          rw n (omega (arith, is.size, is.few, is.inside)))
    ]

pointed_passes : (z : List ℕ) (k m : ℕ) → m ≡ run z + suc k → m ≤ length z → get_or z (run z) 0 ≡ 46 → 1 ≤ k → run z + k ≤ 38 → k ≤ run (drop (run z + 1) z) → is_number (take m z) ≡ true
pointed_passes z k m e le point some few inside =
    let len = length-drop (run z) z in
    let is : IsBehind (run z) (drop (run z) z) k = record { point = at_drop (run z) z ∙ point; some = some; few = few; inside = rw (drop-drop 1 (run z) z) inside } in
    pointed_is z k m e ∙ is_a_fraction (run z) (drop (run z) z) k (omega (arith, len, e)) is

number_pointed : (z : List ℕ) → has_point z ≡ true → Best is_number z (Some (whole z + 1 + min (38 - whole z) (run (drop (whole z + 1) z))))
number_pointed z e =
    let last = and_parts (nat_lt (whole z) 38 && get_or z (whole z) 0 == 46) (is_ascii_digit (get_or z (whole z + 1) 0)) e in
    let first = and_parts (nat_lt (whole z) 38) (get_or z (whole z) 0 == 46) last.0 in
    let less : whole z < 38 = grind (arith, nat_tests, first.0) in
    let n : whole z ≡ run z = omega (arith, less) in
    let within = digit_within z (whole z + 1) last.1 in
    let left = length-drop (whole z + 1) z in
    let r = prefix_len-le-length is_ascii_digit (drop (whole z + 1) z) in
    let point : get_or z (whole z) 0 ≡ 46 = grind (arith, nat_tests, first.1) in
    let some : 1 ≤ run (drop (whole z + 1) z) = digit_run (drop (whole z + 1) z) (rw (at_drop (whole z + 1) z) last.1) in
    let P : ℕ → Type 0 = λ w. get_or z w 0 ≡ 46 in
    let Q : ℕ → Type 0 = λ w. 1 ≤ run (drop (w + 1) z) in
    let S : ℕ → Type 0 = λ w. is_number (take (w + 1 + min (38 - w) (run (drop (w + 1) z))) z) ≡ true in
    let L : ℕ → Type 0 = λ w. w + 1 + min (38 - w) (run (drop (w + 1) z)) ≤ length z in
    let fits : whole z + 1 + min (38 - whole z) (run (drop (whole z + 1) z)) ≤ length z = omega (arith, within, left, r) in
    let some_at = subst Q n some in
    let passes = pointed_passes z (min (38 - run z) (run (drop (run z + 1) z))) (run z + 1 + min (38 - run z) (run (drop (run z + 1) z))) (omega arith) (subst L n fits) (subst P n point) (omega (arith, less, some_at)) (omega (arith, less)) (omega arith) in (
      (omega arith),
      fits,
      subst S (sym n) passes,
      number_most z,
    )

whole_most : (z : List ℕ) → has_point z ≡ false → (m : ℕ) → m ≤ length z → is_number (take m z) ≡ true → m ≤ whole z
whole_most z e m le h =
    elim (number_is z m le h) [
      | inl is ↦ omega (arith, is.few, is.inside)
      | inr is ↦ absurd (let shows = point_shows z m is in cc)
    ]

no_number : (z : List ℕ) → has_point z ≡ false → (whole z == 0) ≡ true → (m : ℕ) → m ≤ length z → is_number (take m z) ≡ false
no_number z e f m le =
    not_true (is_number (take m z)) (λ h.
    let none : whole z ≡ 0 = grind (arith, nat_tests, f) in
    elim (number_is z m le h) [
      | inl is ↦ omega (arith, is.some, is.few, is.inside, none)
      | inr is ↦ (let shows = point_shows z m is in cc)
    ])

number_whole : (z : List ℕ) → has_point z ≡ false → (whole z == 0) ≡ false → Best is_number z (Some (whole z))
number_whole z e f =
    let some : 1 ≤ whole z = grind (arith, nat_tests, f) in
    let r = prefix_len-le-length is_ascii_digit z in
    let lower : nat_lt 0 (whole z) ≡ true = grind (arith, nat_tests, some) in
    let few : whole z ≤ 38 = omega arith in
    let upper : nat_le (whole z) 38 ≡ true = grind (arith, nat_tests, few) in
    let both : (nat_lt 0 (whole z) && nat_le (whole z) 38) ≡ true = rw (lower, upper) refl in (
      some,
      (omega (arith, r)),
      whole_is z (whole z) (omega arith) ∙ both,
      whole_most z e,
    )

pub best_number : (z : List ℕ) → Best is_number z (number z)
best_number z =
    best_if is_number z (has_point z) _ _
    (number_pointed z)
    (λ e. best_if is_number z (whole z == 0) None (Some (whole z)) (no_number z e) (number_whole z e))
