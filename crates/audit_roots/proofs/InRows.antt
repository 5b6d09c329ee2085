-- Numbers of which each below their count stands once are, when sorted, the numbers from 0 on.
use Rattle.std.proofs.Common.{◌≡◌, ◌<◌, ◌≤◌, ◌+◌, ◌==◌, ◌&&◌, ℕ, zero, suc, Bool, true, false, cond, List, [], ◌∷◌, length, filter, get_or, inl, inr, refl, sym, ap, ap₂, ◌∙◌, arith, suc-le-suc, zero-le}
use Rattle.std.specs.List.{AllByRecursion, list_all, range_with_len}
use Rattle.std.specs.List.Sorted.{IsPermutation, IsNonDecreasing}
use Rattle.std.proofs.lemmas.Bool.{cases_lt, cases_Bool, and_parts, eqb-true, eqb-false, eq-eqb, ne_eqb, cond-true, cond-false}
use Rattle.std.proofs.lemmas.List.Sorted.{sum_by-IsPermutation, length_permutation}
use Rattle.std.proofs.lemmas.List.Sums.{length-filter}
use Rattle.spec_verify.specs.Entries.{are_numbered}
use Rattle.audit_roots.specs.Numbered.{is_range}

-- how often n stands among these
abbrev count : ℕ → List ℕ → ℕ
count n ns = length (filter (λ m. m == n) ns)

-- ---- tests of a range

all_to : (p : ℕ → Bool) (a k : ℕ) → ((n : ℕ) → a ≤ n → n < a + k → p n ≡ true) → list_all p (range_with_len a k) ≡ true
all_to p a zero h = refl
all_to p a (suc k) h =
    ap (λ (b : Bool). b && list_all p (range_with_len (a + 1) k)) (h a (omega arith) (omega arith))
    ∙ all_to p (a + 1) k (λ n le lt. h n (omega (arith, le)) (omega (arith, lt)))

next_up : (a n : ℕ) → a ≤ n → (n ≡ a → ⊥) → a + 1 ≤ n
next_up a n le ne = elim (cases_lt n (a + 1)) [
  | inl low ↦ absurd (ne (omega (arith, le, low)))
  | inr high ↦ high
]

all_from : (p : ℕ → Bool) (a k : ℕ) → list_all p (range_with_len a k) ≡ true → (n : ℕ) → a ≤ n → n < a + k → p n ≡ true
all_from p a zero h n le lt = absurd (omega (arith, le, lt))
all_from p a (suc k) h n le lt = elim (cases_Bool (n == a)) [
  | inl here ↦ ap p (eqb-true n a here) ∙ (and_parts (p a) (list_all p (range_with_len (a + 1) k)) h).0
  | inr other ↦ all_from p (a + 1) k (and_parts (p a) (list_all p (range_with_len (a + 1) k)) h).1 n (next_up a n le (eqb-false n a other)) (omega (arith, lt))
]

-- ---- counts

here_more : (n m : ℕ) (ns : List ℕ) → (m == n) ≡ true → count n (m ∷ ns) ≡ count n ns + 1
here_more n m ns e = ap length (cond-true (m == n) (m ∷ filter (λ x. x == n) ns) (filter (λ x. x == n) ns) e) ∙ omega arith

here_same : (n m : ℕ) (ns : List ℕ) → (m == n) ≡ false → count n (m ∷ ns) ≡ count n ns
here_same n m ns e = ap length (cond-false (m == n) (m ∷ filter (λ x. x == n) ns) (filter (λ x. x == n) ns) e)

none_below : (i : ℕ) (ns : List ℕ) → AllByRecursion (λ m. i < m) ns → count i ns ≡ 0
none_below i [] all = refl
none_below i (m ∷ ns) all = here_same i m ns (ne_eqb m i (λ e. (let lt = all.0 in omega (arith, lt, e)))) ∙ none_below i ns all.1

above : (i : ℕ) (ns : List ℕ) → count i ns ≡ 0 → AllByRecursion (λ m. i ≤ m) ns → AllByRecursion (λ m. i + 1 ≤ m) ns
above i [] none all = tt
above i (m ∷ ns) none all = elim (cases_Bool (m == i)) [
  | inl here ↦ absurd (omega (arith, none, here_more i m ns here))
  | inr other ↦ (next_up i m all.0 (eqb-false m i other), above i ns (sym (here_same i m ns other) ∙ none) all.1)
]

weaker : (P Q : ℕ → Type 0) → ((m : ℕ) → P m → Q m) → (ns : List ℕ) → AllByRecursion P ns → AllByRecursion Q ns
weaker P Q f [] all = tt
weaker P Q f (m ∷ ns) all = (f m all.0, weaker P Q f ns all.1)

-- ---- sorted

abbrev Rises : List ℕ → Type 0
Rises [] = Unit {0}
Rises (n ∷ ns) = AllByRecursion (λ m. n ≤ m) ns × Rises ns

all_at : (n : ℕ) (ns : List ℕ) → ((j : ℕ) → j < length ns → n ≤ get_or ns j 0) → AllByRecursion (λ m. n ≤ m) ns
all_at n [] h = tt
all_at n (m ∷ ns) h = (h zero (suc-le-suc zero-le), all_at n ns (λ j lt. h (suc j) (suc-le-suc lt)))

rises : (ns : List ℕ) → IsNonDecreasing ns → Rises ns
rises [] up = tt
rises (n ∷ ns) up = (all_at n ns (λ j lt. up zero (suc j) 0 zero-le (suc-le-suc lt)), rises ns (λ i j d le lt. up (suc i) (suc j) d (suc-le-suc le) (suc-le-suc lt)))

to_range : (i : ℕ) (ns : List ℕ) → Rises ns → AllByRecursion (λ m. i ≤ m) ns → ((n : ℕ) → i ≤ n → n < i + length ns → count n ns ≡ 1) → is_range i ns ≡ true
to_range i [] rise all counts = refl
to_range i (m ∷ ns) rise all counts = elim (cases_Bool (m == i)) [
  | inl here ↦
      let is : m ≡ i = eqb-true m i here in
      let one : count i (m ∷ ns) ≡ 1 = counts i (omega arith) (omega arith) in
      let none : count i ns ≡ 0 = omega (arith, one, here_more i m ns here) in
      ap (λ (b : Bool). b && is_range (i + 1) ns) here
      ∙ to_range (i + 1) ns rise.1 (above i ns none all.1)
      (λ n le lt. sym (here_same n m ns (ne_eqb m n (λ e. omega (arith, e, is, le)))) ∙ counts n (omega (arith, le)) (omega (arith, lt)))
  | inr other ↦
      let up : i + 1 ≤ m = next_up i m all.0 (eqb-false m i other) in
      let one : count i (m ∷ ns) ≡ 1 = counts i (omega arith) (omega arith) in
      let none : count i (m ∷ ns) ≡ 0 = none_below i (m ∷ ns) (omega (arith, up), weaker (λ x. m ≤ x) (λ x. i < x) (λ x le. omega (arith, le, up)) ns rise.0) in
      absurd (omega (arith, one, none))
]

range_above : (i : ℕ) (ns : List ℕ) → is_range i ns ≡ true → AllByRecursion (λ m. i ≤ m) ns
range_above i [] is = tt
range_above i (m ∷ ns) is =
    let parts = and_parts (m == i) (is_range (i + 1) ns) is in
    let here : m ≡ i = eqb-true m i parts.0 in
    (omega (arith, here), weaker (λ x. i + 1 ≤ x) (λ x. i ≤ x) (λ x le. omega (arith, le)) ns (range_above (i + 1) ns parts.1))

from_range : (i : ℕ) (ns : List ℕ) → is_range i ns ≡ true → (n : ℕ) → i ≤ n → n < i + length ns → count n ns ≡ 1
from_range i [] is n le lt = absurd (omega (arith, le, lt))
from_range i (m ∷ ns) is n le lt =
    let parts = and_parts (m == i) (is_range (i + 1) ns) is in
    let here : m ≡ i = eqb-true m i parts.0 in
    elim (cases_Bool (n == i)) [
      | inl same ↦
          let is_n : n ≡ i = eqb-true n i same in
          let none : count n ns ≡ 0 = none_below n ns (weaker (λ x. i + 1 ≤ x) (λ x. n < x) (λ x up. omega (arith, up, is_n)) ns (range_above (i + 1) ns parts.1)) in
          here_more n m ns (eq-eqb m n (here ∙ sym is_n)) ∙ omega (arith, none)
      | inr other ↦
          here_same n m ns (ne_eqb m n (λ e. eqb-false n i other (sym e ∙ here)))
          ∙ from_range (i + 1) ns parts.1 n (next_up i n le (eqb-false n i other)) (omega (arith, lt))
    ]

-- ---- both

pub numbered_in_order : (ns : List ℕ) → is_range 0 ns ≡ true → are_numbered ns ≡ true
numbered_in_order ns is = all_to (λ n. count n ns == 1) 0 (length ns) (λ n le lt. eq-eqb (count n ns) 1 (from_range 0 ns is n (omega arith) (omega (arith, lt))))

same_counts : (xs ys : List ℕ) → IsPermutation xs ys → (n : ℕ) → count n ys ≡ count n xs
same_counts xs ys moved n =
    length-filter (λ (m : ℕ). m == n) ys ∙ sum_by-IsPermutation (λ (m : ℕ). cond (m == n) 1 0) xs ys moved ∙ sym (length-filter (λ (m : ℕ). m == n) xs)

both_true : (a b : Bool) → (a ≡ true → b ≡ true) → (b ≡ true → a ≡ true) → a ≡ b
both_true true b f g = sym (f refl)
both_true false true f g = g refl
both_true false false f g = refl

pub numbered_sorted : (xs ys : List ℕ) → IsPermutation xs ys → IsNonDecreasing ys → is_range 0 ys ≡ are_numbered xs
numbered_sorted xs ys moved up =
    let long = length_permutation xs ys moved in
    both_true (is_range 0 ys) (are_numbered xs)
    (λ is. all_to (λ n. count n xs == 1) 0 (length xs)
    (λ n le lt. eq-eqb (count n xs) 1 (sym (same_counts xs ys moved n) ∙ from_range 0 ys is n (omega arith) (omega (arith, lt, long)))))
    (λ are. to_range 0 ys (rises ys up) (all_at 0 ys (λ j lt. zero-le))
    (λ n le lt. same_counts xs ys moved n ∙ eqb-true (count n xs) 1 (all_from (λ m. count m xs == 1) 0 (length xs) are n (omega arith) (omega (arith, lt, long)))))

-- numbers in another order
pub numbered_moved : (xs ys : List ℕ) → IsPermutation xs ys → are_numbered ys ≡ are_numbered xs
numbered_moved xs ys moved =
    let long : length ys ≡ length xs = omega (arith, length_permutation xs ys moved) in
    ap₂ (λ (f : ℕ → ℕ) (n : ℕ). list_all (λ k. f k == 1) (range_with_len 0 n)) (λ i n. same_counts xs ys moved n i) long
