use Rattle.std.proofs.Common.{◌≡◌, ℕ, List, [], get_or, slice_index, ap, refl}
use Rattle.base_sha256.specs.Lanes.{eight_words}
use Rattle.base_sha256.proofs.rounds.round.Goals as goal

pub returns : goal.returns
returns c = λ s w ev ew.
    let at : (j : ℕ) → get_or c.args.v j [] ≡ get_or (eight_words s) j [] = λ j. ap (λ (l : List (List ℕ)). get_or l j []) ev in
    let word : ℕ → ℕ → ℕ = λ j i. slice_index (s i) j in
    rw (
      c.big_sigma1.ensures (word 4) (at 4),
      c.ch.ensures (word 4) (word 5) (word 6) (at 4) (at 5) (at 6),
      c.big_sigma0.ensures (word 0) (at 0),
      c.maj.ensures (word 0) (word 1) (word 2) (at 0) (at 1) (at 2),
      ev,
      ew,
    ) refl
