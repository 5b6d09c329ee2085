use Rattle.std.proofs.Common.{◌≡◌, ℕ, [], ◌<◌, ◌*◌, length, slice_index_or, List}
use Rattle.sha2.specs.Sha256.{word_at}
use Rattle.base_sha256.specs.Lanes.{block, eight_words, lanes}
use Rattle.base_sha256.specs.Rounds.{Rounds}
use Rattle.base_sha256.proofs.rounds.compress.Given as goal

abbrev pub invariant-words : goal.invariant-words
invariant-words l = (length l.w ≡ 16)
    × ((k : ℕ) → k < l.i → slice_index_or l.w k [] ≡ lanes (λ i. word_at (block l.blocks i) (4 * k)))

abbrev pub invariant-turns : goal.invariant-turns
invariant-turns l = (h : ℕ → List ℕ) → l.state ≡ eight_words h → Rounds (block l.blocks) h l.w l.v (16 * l.turn)
