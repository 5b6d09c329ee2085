-- A round on four blocks at once.
use Rattle.std.proofs.Common.{◌≡◌, ◌≢◌, ℕ, ◌+◌, ◌-◌, ◌*◌, ◌%◌, ◌<◌, ◌≤◌, List, [], length, slice_index, slice_index_or, slice_set, refl, sym, ◌∙◌, arith, inl, inr}
use Rattle.std.proofs.lemmas.List.{get_or-set_same, get_or-set_other, length-set}
use Rattle.std.proofs.lemmas.Bool.{cases_lt}
use Rattle.sha2.specs.Sha256.{add32, next_word, small_sigma0, small_sigma1, round, round_constants, rounds, schedule, word_at}
use Rattle.sha2.proofs.Schedule256.{rounds_next, slice_index-schedule_first, slice_index-schedule_next}
use Rattle.base_sha256.specs.Lanes.{lanes, eight_words}
use Rattle.base_sha256.specs.Rounds.{Rounds, Window, after_rounds}

-- word t of the schedule of each block
abbrev pub words_at : (ℕ → List ℕ) → ℕ → ℕ → ℕ
words_at b t = λ i. slice_index (schedule (b i) 48) t

-- one more round, with its constant and its words
pub round_more : (b h : ℕ → List ℕ) (t k : ℕ) (next : List (List ℕ)) → k ≡ slice_index round_constants t
    → next ≡ eight_words (λ i. round (rounds (h i) (schedule (b i) 48) t) k (words_at b t i)) → next ≡ after_rounds b h (t + 1)
round_more b h t k next ek en =
    let step : (i : ℕ) → round (rounds (h i) (schedule (b i) 48) t) k (words_at b t i) ≡ rounds (h i) (schedule (b i) 48) (t + 1) =
    λ i. rw (rounds_next (h i) (schedule (b i) 48) t, ek) refl in
    en ∙ (λ j. eight_words (λ i. step i j))

-- the vector of the word at d, in a window that ends before t
pub window_at : (b : ℕ → List ℕ) (w : List (List ℕ)) (t k d p : ℕ) → Window b w t → k < 16 → t + k ≡ d + 16 → p ≡ (t + k) % 16
    → slice_index_or w p [] ≡ lanes (words_at b d)
window_at b w t k d p window lt e ep =
    let at : t + k - 16 ≡ d = omega arith in
    rw (ep, window.at k lt, at) refl

-- the next words, from those before
pub words_next : (b : ℕ → List ℕ) (t : ℕ) (x : List ℕ) → 16 ≤ t → t < 64
    → x ≡ lanes (λ i. add32 (add32 (add32 (small_sigma1 (words_at b (t - 2) i)) (words_at b (t - 7) i)) (small_sigma0 (words_at b (t - 15) i))) (words_at b (t - 16) i))
    → x ≡ lanes (words_at b t)
words_next b t x low high e =
    let step : (i : ℕ) → next_word (schedule (b i) 48) t ≡ slice_index (schedule (b i) 48) t =
    λ i. sym (slice_index-schedule_next (b i) 48 t low (omega arith)) in
    e ∙ (λ j. lanes (λ i. step i j))

-- the window one word on
pub window_next : (b : ℕ → List ℕ) (w : List (List ℕ)) (t p : ℕ) (x : List ℕ) → 16 ≤ t → p ≡ t % 16 → Window b w t → x ≡ lanes (words_at b t)
    → Window b (slice_set w p x) (t + 1)
window_next b w t p x low ep window ex =
    let len : length w ≡ 16 = window.len in record {
      len = length-set w p x ∙ len;
      at = λ k lt. elim (cases_lt k 15) [
        | inl a ↦
            let ne : (t + 1 + k) % 16 ≢ p = omega arith in
            get_or-set_other w p ((t + 1 + k) % 16) x [] ne ∙ window_at b w t (k + 1) (t + 1 + k - 16) ((t + 1 + k) % 16) window (omega arith) (omega arith) (omega arith)
        | inr c ↦
            let e : (t + 1 + k) % 16 ≡ p = omega arith in
            let d : t + 1 + k - 16 ≡ t = omega arith in
            rw (e, d) (get_or-set_same w p x [] (omega arith) ∙ ex)
      ];
    }

-- the same round, spelled another way
pub rounds_at : (b h : ℕ → List ℕ) (w v : List (List ℕ)) (t d : ℕ) → t ≡ d → Rounds b h w v t → Rounds b h w v d
rounds_at b h w v t d e done = rw (← e) done

-- the window that the first 16 words of the blocks make
pub window_first : (b : ℕ → List ℕ) (w : List (List ℕ)) → length w ≡ 16
    → ((k : ℕ) → k < 16 → slice_index_or w k [] ≡ lanes (λ i. word_at (b i) (4 * k))) → Window b w 16
window_first b w len at = record {
  len = len;
  at = λ k lt.
      let a : (16 + k) % 16 ≡ k = omega arith in
      let e : 16 + k - 16 ≡ k = omega arith in
      let step : (i : ℕ) → word_at (b i) (4 * k) ≡ slice_index (schedule (b i) 48) k = λ i. sym (slice_index-schedule_first (b i) 48 k lt) in
      rw (a, e) (at k lt ∙ (λ j. lanes (λ i. step i j)));
}
