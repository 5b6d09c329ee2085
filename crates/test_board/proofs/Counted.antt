-- What follows where the counters are counted: there is room to count, and at the end each is what the last seat counted.
use Rattle.std.proofs.Common.{◌≡◌, ℕ, zero, suc, ◌+◌, ◌-◌, ◌<◌, ◌≤◌, List, [], ◌∷◌, map, length, get_or, refl, sym, ap, ◌∙◌, arith}
use Rattle.std.specs.Prelude.{sum_by}
use Rattle.std.proofs.lemmas.List.Sums.{sum_by-cons}
use mathlib.Core.Option.{some, some-injective, some-ne-none}
use lib.ListN.{get_elem?}
use Rattle.base_board.specs.Boards.{AllElse}
use Rattle.test_board.specs.declared.world.Counter.{Counter}
use Rattle.test_board.specs.declared.world.Share.{Share}
use Rattle.test_board.specs.declared.world.CounterId.{CounterId}
use Rattle.test_board.specs.declared.world.CounterId.TheVariants.{First, Second}
use Rattle.test_board.specs.Sessions.{counted_times}
use Rattle.test_board.specs.Shares.{share, counted, number_of, count_of, first_of, second_of, whole_of, most_counts, IsCounted}

-- a seat's part of a sum is no more than the sum
pub part_of_sum : (f : Share → ℕ) (seats : List Share) (j : ℕ) (s : Share) → get_elem? seats j ≡ some s → f s ≤ sum_by f seats
part_of_sum f [] j s at = absurd (some-ne-none s (sym at))
part_of_sum f (x ∷ xs) zero s at = omega (arith, sum_by-cons f x xs, ap f (some-injective x s at))
part_of_sum f (x ∷ xs) (suc j) s at = omega (arith, sum_by-cons f x xs, part_of_sum f xs j s at)

-- what all seats counted, and one of them still may count, is within what all may
pub sums_within : (seats : List Share) (j : ℕ) (s : Share) → get_elem? seats j ≡ some s → sum_by first_of seats + sum_by second_of seats + s.left ≤ sum_by whole_of seats
sums_within [] j s at = absurd (some-ne-none s (sym at))
sums_within (x ∷ xs) zero s at = let same : x.left ≡ s.left = ap (λ (t : Share). t.left) (some-injective x s at) in omega (arith, sum_by-cons first_of x xs, sum_by-cons second_of x xs, sum_by-cons whole_of x xs, all_within xs)
  where
    all_within : (ys : List Share) → sum_by first_of ys + sum_by second_of ys ≤ sum_by whole_of ys
    all_within [] = omega arith
    all_within (y ∷ ys) = omega (arith, sum_by-cons first_of y ys, sum_by-cons second_of y ys, sum_by-cons whole_of y ys, all_within ys)
sums_within (x ∷ xs) (suc j) s at = omega (arith, sum_by-cons first_of x xs, sum_by-cons second_of x xs, sum_by-cons whole_of x xs, sums_within xs j s at)

-- a counter is at most the sum of both
at_most_both : (cells : List Counter) (i : ℕ) (c : Counter) (a b : ℕ) → map count_of cells ≡ a ∷ b ∷ [] → get_elem? cells i ≡ some c → c.count ≤ a + b
at_most_both [] i c a b is at = absurd (some-ne-none c (sym at))
at_most_both (x ∷ []) i c a b is at = absurd (cc)
at_most_both (x ∷ y ∷ z ∷ zs) i c a b is at = absurd (cc)
at_most_both (x ∷ y ∷ []) zero c a b is at = let same : x.count ≡ c.count = ap count_of (some-injective x c at) in let p : x.count ≡ a = cc in omega arith
at_most_both (x ∷ y ∷ []) (suc zero) c a b is at = let same : y.count ≡ c.count = ap count_of (some-injective y c at) in let q : y.count ≡ b = cc in omega arith
at_most_both (x ∷ y ∷ []) (suc (suc i)) c a b is at = absurd (some-ne-none c (sym at))

-- where a seat may still count, no counter is at its end
pub counter_fits : (cells : List Counter) (seats : List Share) (j : ℕ) (s : Share) (i : ℕ) (c : Counter) → IsCounted cells seats → get_elem? seats j ≡ some s → get_elem? cells i ≡ some c → 0 < s.left → c.count < most_counts
counter_fits cells seats j s i c h at there allowed = let both = at_most_both cells i c (sum_by first_of seats) (sum_by second_of seats) h.counts there in let within = sums_within seats j s at in let room = h.room in omega arith

none_else : (f : Share → ℕ) (seats : List Share) → f (share 0 0 0) ≡ 0 → ((k : ℕ) (s : Share) → get_elem? seats k ≡ some s → s ≡ share 0 0 0) → sum_by f seats ≡ 0
none_else f [] zero_of h = refl
none_else f (x ∷ xs) zero_of h = omega (arith, sum_by-cons f x xs, ap f (h 0 x refl), none_else f xs zero_of (λ k s e. h (suc k) s e))

-- where all other seats are nobody, the sum is this seat's
pub alone : (f : Share → ℕ) (seats : List Share) (j : ℕ) (s : Share) → f (share 0 0 0) ≡ 0 → get_elem? seats j ≡ some s → AllElse (share 0 0 0) j seats → sum_by f seats ≡ f s
alone f [] j s zero_of at else = absurd (some-ne-none s (sym at))
alone f (x ∷ xs) zero s zero_of at else = omega (arith, sum_by-cons f x xs, ap f (some-injective x s at), none_else f xs zero_of (λ k t e. else (suc k) t (λ q. absurd (omega arith)) e))
alone f (x ∷ xs) (suc j) s zero_of at else = omega (arith, sum_by-cons f x xs, ap f (else 0 x (λ q. absurd (omega arith)) refl), zero_of, alone f xs j s zero_of at (λ k t ne e. else (suc k) t (λ q. ne (omega arith)) e))

-- two counters are the first and the second
pub two_counts : (cells : List Counter) (d e : Counter) → length cells ≡ 2 → map count_of cells ≡ (get_or cells 0 d).count ∷ (get_or cells 1 e).count ∷ []
two_counts [] d e n = absurd (omega arith)
two_counts (x ∷ []) d e n = absurd (omega arith)
two_counts (x ∷ y ∷ []) d e n = refl
two_counts (x ∷ y ∷ z ∷ zs) d e n = absurd (omega arith)

two_same : (a b c d : ℕ) → a ∷ b ∷ [] ≡ c ∷ d ∷ [] → (a ≡ c) × (b ≡ d)
two_same a b c d e = (cc, cc)

-- what a seat that sees both counters knows of them
pub seen_both : (cells : List Counter) (seats : List Share) (j : ℕ) (s : Share) (a b : ℕ) → IsCounted cells seats → get_elem? seats j ≡ some s → map count_of cells ≡ a ∷ b ∷ [] → (s.first ≤ a) × (s.second ≤ b) × (a + b ≤ most_counts)
seen_both cells seats j s a b h at is = let same = two_same a b (sum_by first_of seats) (sum_by second_of seats) (sym is ∙ h.counts) in let f = part_of_sum first_of seats j s at in let g = part_of_sum second_of seats j s at in let w = sums_within seats j s at in let room = h.room in let p = same.0 in let q = same.1 in
    (omega arith, omega arith, omega arith)

-- both counters at the end are what the last seat counted
pub settled : (cells : List Counter) (seats : List Share) (j : ℕ) (s : Share) (a b : ℕ) → IsCounted cells seats → get_elem? seats j ≡ some s → AllElse (share 0 0 0) j seats → map count_of cells ≡ a ∷ b ∷ [] → (a ≡ s.first) × (b ≡ s.second)
settled cells seats j s a b h at else is = let same = two_same a b (sum_by first_of seats) (sum_by second_of seats) (sym is ∙ h.counts) in
    (same.0 ∙ alone first_of seats j s refl at else, same.1 ∙ alone second_of seats j s refl at else)
