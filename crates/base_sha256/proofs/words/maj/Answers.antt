use Rattle.std.proofs.Common.{◌≡◌, ℕ, bit_and, bit_xor}
use Rattle.sha2.specs.Sha256.{maj}
use Rattle.base_sha256.specs.Lanes.{lanes}
use Rattle.base_sha256.proofs.MajShort.{maj_short}
use Rattle.base_sha256.proofs.words.maj.Goals as goal

pub returns : goal.returns
returns c = λ f g h ef eg eh.
    let short : ℕ → ℕ = λ i. bit_xor (g i) (bit_and (bit_xor (f i) (g i)) (bit_xor (g i) (h i))) in
    let step : (i : ℕ) → short i ≡ maj (f i) (g i) (h i) = λ i. maj_short (f i) (g i) (h i) in
    rw (ef, eg, eh) (λ j. lanes (λ i. step i j))
