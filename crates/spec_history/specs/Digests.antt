-- Digests of a journal's blocks.
use Rattle.std.specs.Prelude.{ℕ, suc, ◌≡◌, ◌+◌, ◌-◌, ◌≤◌, ◌==◌, Bool, true, false, List, [], ◌∷◌, Option, Some, slice_get}
pub use Rattle.sql_types.specs.declared.digest.Digest.{Digest}
use Rattle.sql_types.specs.declared.journal.JournalItem.{JournalItem}
use Rattle.spec_history.specs.Lists.{Text, Each}
use Rattle.spec_history.specs.Journals.{in_blocks, times}
use Rattle.spec_history.specs.Meaning.{Meaning}
use Rattle.spec_history.specs.Facts.{Fact, digest}

-- the time of the last entry of a block
abbrev pub last_time : List JournalItem → ℕ → Option ℕ
last_time J b = slice_get (times J) (in_blocks (suc b) J - 1)

-- a digest of this journal, but for the moment of its making
pub record IsDigest (q : Meaning) (database : Text) (J : List JournalItem) (d : Digest) : Type 0 where
  pub of : d.database ≡ database
  pub hash : d.hash ≡ q.block_hash J d.block
  pub last : last_time J d.block ≡ Some d.last_commit

-- how many digests of block b
abbrev pub one_if : Bool → ℕ
one_if true = 1
one_if false = 0

abbrev pub of_block : ℕ → List Digest → ℕ
of_block b [] = 0
of_block b (d ∷ ds) = one_if (d.block == b) + of_block b ds

abbrev pub shows_block : ℕ → Fact → ℕ
shows_block b (digest block hash) = one_if (block == b)
shows_block b _ = 0

-- how many replies of block b
abbrev pub replies_of_block : ℕ → List Fact → ℕ
replies_of_block b [] = 0
replies_of_block b (g ∷ gs) = shows_block b g + replies_of_block b gs

-- blocks never fall
abbrev pub BlocksRise : List Digest → Type 0
BlocksRise [] = Unit {0}
BlocksRise (d ∷ ds) = Each (λ e. d.block ≤ e.block) ds × BlocksRise ds
