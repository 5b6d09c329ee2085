use Rattle.std.proofs.Common.{ℕ, List, ◌/◌, ◌^◌, ap, bit_xor, subst, refl, arith, w32, Fits}
use Rattle.sha2.specs.Sha256.{small_sigma1}
use Rattle.base_sha256.specs.Lanes.{lanes}
use Rattle.base_sha256.proofs.Lanewise.{lane_fits, same_vector}
use Rattle.base_sha256.proofs.Rotations.{rotated, rotated_two}
use Rattle.base_sha256.proofs.words.small_sigma1.Goals as goal
use lib.Lanes.{Each1}

pub returns : goal.returns
returns c = λ f e.
    let inner : ℕ → ℕ = λ i. rotated 32 (f i) 2 in
    let outer : ℕ → ℕ = λ i. rotated 32 (bit_xor (f i) (inner i)) 17 in
    let fits : Each1 (Fits w32) (lanes f) = subst (λ (x : List ℕ). Each1 (Fits w32) x) e c.fits-x.1 in
    let e1 = c.rotate_right.ensures f e in
    let e2 = c.rotate_right-2.ensures (λ i. bit_xor (f i) (inner i)) (rw (e, e1) refl) in
    let same = same_vector (λ i. bit_xor (outer i) (f i / 2 ^ 10)) (λ i. small_sigma1 (f i))
    (λ i lt. ap (λ (y : ℕ). bit_xor y (f i / 2 ^ 10)) (rotated_two 32 (f i) 17 2 (omega arith) (lane_fits f i lt fits))) in
    rw (e2, e) same
