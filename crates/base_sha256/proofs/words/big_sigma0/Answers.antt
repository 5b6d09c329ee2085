use Rattle.std.proofs.Common.{ℕ, List, ◌∙◌, bit_xor, subst, refl, arith, w32, Fits}
use Rattle.sha2.specs.Sha256.{big_sigma0}
use Rattle.base_sha256.specs.Lanes.{lanes}
use Rattle.base_sha256.proofs.Lanewise.{lane_fits, same_vector}
use Rattle.base_sha256.proofs.Rotations.{rotated, rotated_three}
use Rattle.base_sha256.proofs.words.big_sigma0.Goals as goal
use lib.Lanes.{Each1}

pub returns : goal.returns
returns c = λ f e.
    let inner : ℕ → ℕ = λ i. rotated 32 (f i) 9 in
    let middle : ℕ → ℕ = λ i. rotated 32 (bit_xor (f i) (inner i)) 11 in
    let outer : ℕ → ℕ = λ i. rotated 32 (bit_xor (f i) (middle i)) 2 in
    let fits : Each1 (Fits w32) (lanes f) = subst (λ (x : List ℕ). Each1 (Fits w32) x) e c.fits-x.1 in
    let e1 = c.rotate_right.ensures f e in
    let e2 = c.rotate_right-2.ensures (λ i. bit_xor (f i) (inner i)) (rw (e, e1) refl) in
    let e3 = c.rotate_right-3.ensures (λ i. bit_xor (f i) (middle i)) (rw (e, e2) refl) in
    let same = same_vector outer (λ i. big_sigma0 (f i)) (λ i lt. rotated_three 32 (f i) 2 11 9 (omega arith) (lane_fits f i lt fits)) in
    e3 ∙ same
