-- The blocks of a padded message.
use Rattle.std.specs.Prelude.{◌≡◌, ℕ, ◌-◌, ◌*◌, ◌^◌, ◌<◌, List, length, min, replicate, take, drop}
use Rattle.sha2.specs.Sha256.{padded_message}

-- the message m is short enough to be hashed in a lane, and has n blocks with its padding
pub record HasBlocks (m : List ℕ) (n : ℕ) : Type 0 where
  pub short : length m < 2 ^ 60
  pub blocks : length (padded_message m) ≡ n * 64

-- block n of the padded message
abbrev pub block_at : List ℕ → ℕ → List ℕ
block_at m n = take 64 (drop (n * 64) (padded_message m))

-- the first `filled` bytes of the block are the bytes of m from `start` on, as many as a block takes, and the
-- others are zeros
pub record IsFilled (block : List ℕ) (filled start : ℕ) (m : List ℕ) : Type 0 where
  pub len : length block ≡ 64
  pub count : filled ≡ min 64 (length m - start)
  pub front : take filled block ≡ take 64 (drop start m)
  pub back : drop filled block ≡ replicate (64 - filled) 0
