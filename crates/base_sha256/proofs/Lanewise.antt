-- Facts of each lane, and vectors from them.
use Rattle.std.proofs.Common.{◌≡◌, ℕ, suc, zero, ◌^◌, ◌<◌, [], ◌∷◌, w32, Fits, arith}
use Rattle.base_sha256.specs.Lanes.{lanes}
use lib.Lanes.{Each1}

-- vectors with the same lanes
pub same_vector : (f g : ℕ → ℕ) → ((i : ℕ) → i < 4 → f i ≡ g i) → lanes f ≡ lanes g
same_vector f g e = λ j. e 0 (omega arith) j ∷ e 1 (omega arith) j ∷ e 2 (omega arith) j ∷ e 3 (omega arith) j ∷ []

-- each lane is a word
pub lane_fits : (f : ℕ → ℕ) (i : ℕ) → i < 4 → Each1 (Fits w32) (lanes f) → f i < 2 ^ 32
lane_fits f zero lt fits = fits.0.fits
lane_fits f (suc zero) lt fits = fits.1.0.fits
lane_fits f (suc (suc zero)) lt fits = fits.1.1.0.fits
lane_fits f (suc (suc (suc zero))) lt fits = fits.1.1.1.0.fits
lane_fits f (suc (suc (suc (suc i)))) lt fits = absurd (omega arith)
