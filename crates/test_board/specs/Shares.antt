-- The counters, what each seat counted in them, and when both stand together.
use Rattle.std.specs.Prelude.{◌≡◌, ℕ, zero, suc, ◌+◌, ◌-◌, ◌*◌, ◌<◌, ◌≤◌, min, List, [], ◌∷◌, map, sum_by}
use Rattle.test_board.specs.declared.world.Counter.{Counter}
use Rattle.test_board.specs.declared.world.Share.{Share}
use Rattle.test_board.specs.declared.world.CounterId.{CounterId}
use Rattle.test_board.specs.declared.world.CounterId.TheVariants.{First, Second}

-- the number of the counter's cell
abbrev pub number_of : CounterId → ℕ
number_of First = 0
number_of Second = 1

abbrev pub share : ℕ → ℕ → ℕ → Share
share a b n = record { first = a; second = b; left = n }

abbrev pub count_of : Counter → ℕ
count_of c = c.count

abbrev pub first_of : Share → ℕ
first_of s = s.first

abbrev pub second_of : Share → ℕ
second_of s = s.second

-- what the seat counted and still may count
abbrev pub whole_of : Share → ℕ
whole_of s = s.first + s.second + s.left

-- how often all seats together may count
abbrev pub most_counts : ℕ
most_counts = 18446744073709551615

-- how often a new seat may count for each of its parts
abbrev pub counts_a_part : ℕ
counts_a_part = 4294967296

-- each counter is the sum of what the seats counted there, and what they counted and still may count has room
pub record IsCounted (cells : List Counter) (seats : List Share) : Type 0 where
  pub counts : map count_of cells ≡ sum_by first_of seats ∷ sum_by second_of seats ∷ []
  pub room : sum_by whole_of seats ≤ most_counts

-- a seat counted once in the counter i
abbrev pub counted : ℕ → Share → Share
counted zero s = share (s.first + 1) s.second (s.left - 1)
counted (suc i) s = share s.first (s.second + 1) (s.left - 1)

-- a seat that may still count raises a counter by one
pub record Counts (s : Share) (out : List (ℕ × Counter)) (i : ℕ) (c : Counter) (t : Share) : Type 0 where
  pub old : Counter
  pub held : out ≡ (i, old) ∷ []
  pub raised : c.count ≡ old.count + 1
  pub allowed : 0 < s.left
  pub after : t ≡ counted i s

-- a seat leaves the counter as it took it
pub record Looks (s : Share) (out : List (ℕ × Counter)) (i : ℕ) (c : Counter) (t : Share) : Type 0 where
  pub others : List (ℕ × Counter)
  pub held : out ≡ (i, c) ∷ others
  pub after : t ≡ s

-- the visits that there may be
pub data AllowedCounting (s : Share) (out : List (ℕ × Counter)) (i : ℕ) (c : Counter) (t : Share) : Type 0 where
  counts : Counts s out i c t → AllowedCounting s out i c t
  looks : Looks s out i c t → AllowedCounting s out i c t

-- what a seat may still count is divided by the parts that it gives away
abbrev pub kept_share : Share → ℕ → Share
kept_share s n = share s.first s.second (s.left - n * counts_a_part)

abbrev pub new_share : Share → ℕ → Share
new_share s n = share 0 0 (min s.left (n * counts_a_part))

abbrev pub joined_share : Share → Share → Share
joined_share s t = share (s.first + t.first) (s.second + t.second) (s.left + t.left)
