-- The laws of the two counters: each visit, split and join keeps them counted.
use Rattle.std.proofs.Common.{◌≡◌, ◌≢◌, ℕ, zero, suc, ◌+◌, ◌*◌, ◌<◌, List, [], ◌∷◌, ◌++◌, map, set, refl, sym, ap, ◌∙◌, subst, arith}
use Rattle.std.specs.Prelude.{sum_by}
use Rattle.std.proofs.lemmas.List.Sums.{sum_by-cons, sum_by-append}
use mathlib.Core.Option.{some, some-injective, some-ne-none}
use lib.ListN.{get_elem?}
use Rattle.base_board.specs.Outs.{OutsAreIn}
use Rattle.base_board.proofs.Rows.{sum_set, set_again, set_else}
use Rattle.test_board.specs.declared.world.Counter.{Counter}
use Rattle.test_board.specs.declared.world.Share.{Share}
use Rattle.test_board.specs.Shares.{share, count_of, first_of, second_of, whole_of, counts_a_part, IsCounted, counted, AllowedCounting, counts, looks, kept_share, new_share, joined_share}

-- two counters with these counts
two : (cells : List Counter) (i : ℕ) (old c : Counter) (a b a' b' : ℕ) → map count_of cells ≡ a ∷ b ∷ []
    → get_elem? cells i ≡ some old → c.count ≡ old.count + 1
    → (i ≡ 0 → (a' ≡ a + 1) × (b' ≡ b)) → (i ≢ 0 → (a' ≡ a) × (b' ≡ b + 1))
    → map count_of (set cells i c) ≡ a' ∷ b' ∷ []
two [] i old c a b a' b' is at more here there = absurd (some-ne-none old (sym at))
two (x ∷ []) i old c a b a' b' is at more here there = absurd (cc)
two (x ∷ y ∷ z ∷ zs) i old c a b a' b' is at more here there = absurd (cc)
two (x ∷ y ∷ []) zero old c a b a' b' is at more here there =
    let same : x.count ≡ old.count = ap count_of (some-injective x old at) in let p : x.count ≡ a = cc in
    let q : y.count ≡ b = cc in let h = here refl in
    let p' : c.count ≡ a' = omega (arith, h.0) in let q' : y.count ≡ b' = omega (arith, h.1) in
    λ k. p' k ∷ q' k ∷ []
two (x ∷ y ∷ []) (suc zero) old c a b a' b' is at more here there =
    let same : y.count ≡ old.count = ap count_of (some-injective y old at) in let p : x.count ≡ a = cc in
    let q : y.count ≡ b = cc in let h = there (λ e. absurd (omega arith)) in
    let p' : x.count ≡ a' = omega (arith, h.0) in let q' : c.count ≡ b' = omega (arith, h.1) in
    λ k. p' k ∷ q' k ∷ []
two (x ∷ y ∷ []) (suc (suc i)) old c a b a' b' is at more here there = absurd (some-ne-none old (sym at))

counts_keep : (cells : List Counter) (seats : List Share) (j : ℕ) (s : Share) (i : ℕ) (old c : Counter)
    → IsCounted cells seats → get_elem? seats j ≡ some s → get_elem? cells i ≡ some old
    → c.count ≡ old.count + 1 → 0 < s.left
    → IsCounted (set cells i c) (set seats j (counted i s))
counts_keep cells seats j s zero old c h at there raised allowed = let t : Share = counted zero s in
    let f = sum_set first_of seats j s t at in let g = sum_set second_of seats j s t at in
    let w = sum_set whole_of seats j s t at in let room = h.room in record {
      counts = two cells zero old c (sum_by first_of seats) (sum_by second_of seats)
          (sum_by first_of (set seats j t)) (sum_by second_of (set seats j t)) h.counts there raised
          (λ _. (omega arith, omega arith)) (λ ne. absurd (ne refl));
      room = omega arith;
    }
counts_keep cells seats j s (suc i) old c h at there raised allowed = let t : Share = counted (suc i) s in
    let f = sum_set first_of seats j s t at in let g = sum_set second_of seats j s t at in
    let w = sum_set whole_of seats j s t at in let room = h.room in record {
      counts = two cells (suc i) old c (sum_by first_of seats) (sum_by second_of seats)
          (sum_by first_of (set seats j t)) (sum_by second_of (set seats j t)) h.counts there raised
          (λ e. absurd (omega arith)) (λ _. (omega arith, omega arith));
      room = omega arith;
    }

pub visits_keep : (cells : List Counter) (seats : List Share) (j : ℕ) (s : Share) (out : List (ℕ × Counter))
    (i : ℕ) (c : Counter) (t : Share)
    → IsCounted cells seats → get_elem? seats j ≡ some s → OutsAreIn cells out → AllowedCounting s out i c t
    → IsCounted (set cells i c) (set seats j t)
visits_keep cells seats j s out i c t h at outs (counts v) =
    let there = subst (OutsAreIn cells) v.held outs in
    subst (λ (u : Share). IsCounted (set cells i c) (set seats j u)) (sym v.after)
    (counts_keep cells seats j s i v.old c h at there.0 v.raised v.allowed)
visits_keep cells seats j s out i c t h at outs (looks v) = let there = subst (OutsAreIn cells) v.held outs in
    let same : set seats j t ≡ seats = ap (set seats j) v.after ∙ set_again seats j s at in
    subst (λ (z : List Counter × List Share). IsCounted z.0 z.1)
    (λ k. (sym (set_again cells i c there.0) k, sym same k)) h

pub splits_keep : (cells : List Counter) (seats : List Share) (j : ℕ) (s : Share) (n : ℕ)
    → IsCounted cells seats → get_elem? seats j ≡ some s → 0 < n
    → IsCounted cells (set seats j (kept_share s n) ++ new_share s n ∷ [])
splits_keep cells seats j s n h at some_part = let t : Share = kept_share s n in
    let u : Share = new_share s n in let vs : List Share = set seats j t in let x : ℕ = n * counts_a_part in
    let f = sum_set first_of seats j s t at in let g = sum_set second_of seats j s t at in
    let w = sum_set whole_of seats j s t at in let room = h.room in
    let f' = sum_by-append first_of vs (u ∷ []) in let g' = sum_by-append second_of vs (u ∷ []) in
    let w' = sum_by-append whole_of vs (u ∷ []) in
    let f1 = sum_by-cons first_of u [] in let g1 = sum_by-cons second_of u [] in
    let w1 = sum_by-cons whole_of u [] in
    let first : sum_by first_of seats ≡ sum_by first_of (vs ++ u ∷ []) = omega arith in
    let second : sum_by second_of seats ≡ sum_by second_of (vs ++ u ∷ []) = omega arith in record {
      counts = h.counts ∙ (λ k. first k ∷ second k ∷ []);
      room = omega arith;
    }

pub joins_keep : (cells : List Counter) (seats : List Share) (j k : ℕ) (s t : Share) → IsCounted cells seats
    → get_elem? seats j ≡ some s → get_elem? seats k ≡ some t → k ≢ j → Unit {0}
    → IsCounted cells (set (set seats j (joined_share s t)) k (share 0 0 0))
joins_keep cells seats j k s t h at at' ne _ = let u : Share = joined_share s t in
    let vs : List Share = set seats j u in let none : Share = share 0 0 0 in
    let there = set_else seats j k u ne ∙ at' in
    let f = sum_set first_of seats j s u at in let g = sum_set second_of seats j s u at in
    let w = sum_set whole_of seats j s u at in let room = h.room in
    let f' = sum_set first_of vs k t none there in let g' = sum_set second_of vs k t none there in
    let w' = sum_set whole_of vs k t none there in
    let first : sum_by first_of seats ≡ sum_by first_of (set vs k none) = omega arith in
    let second : sum_by second_of seats ≡ sum_by second_of (set vs k none) = omega arith in record {
      counts = h.counts ∙ (λ q. first q ∷ second q ∷ []);
      room = omega arith;
    }
