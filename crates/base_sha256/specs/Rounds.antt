-- The schedules and the rounds of four blocks, block i in lane i.
use Rattle.std.specs.Prelude.{◌≡◌, ℕ, ◌+◌, ◌-◌, ◌%◌, ◌<◌, List, [], length, slice_index, slice_index_or}
use Rattle.sha2.specs.Sha256.{rounds, schedule}
use Rattle.base_sha256.specs.Lanes.{lanes, eight_words}

-- the vectors w hold the 16 words of each block's schedule before word t: word s is at place s % 16
pub record Window (b : ℕ → List ℕ) (w : List (List ℕ)) (t : ℕ) : Type 0 where
  pub len : length w ≡ 16
  pub at : (k : ℕ) → k < 16
      → slice_index_or w ((t + k) % 16) [] ≡ lanes (λ i. slice_index (schedule (b i) 48) (t + k - 16))

-- the working variables after t rounds of each block, block i's from the hash value h i
abbrev pub after_rounds : (ℕ → List ℕ) → (ℕ → List ℕ) → ℕ → List (List ℕ)
after_rounds b h t = eight_words (λ i. rounds (h i) (schedule (b i) 48) t)

-- t rounds are done: the vectors w hold the words before word t, and v the working variables
pub record Rounds (b h : ℕ → List ℕ) (w v : List (List ℕ)) (t : ℕ) : Type 0 where
  pub window : Window b w t
  pub variables : v ≡ after_rounds b h t
