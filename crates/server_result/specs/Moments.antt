-- Moments.
use Rattle.std.specs.Prelude.{ℕ, ◌≡◌, min, Option, Some, None}
use Rattle.base_types.specs.declared.moment.TheConstants.{MAX_TICKS}

-- a number of ticks that is said, or the greatest moment where that is less
abbrev pub IsMoment : (ℕ → Type 0) → ℕ → Type 0
IsMoment says at = (said : ℕ) × says said × (at ≡ min said MAX_TICKS)

-- what is said: the moment that is given, or else what the clock says
abbrev pub said_with : Option ℕ → (ℕ → Type 0) → ℕ → Type 0
said_with None clock = clock
said_with (Some given) clock = λ at. at ≡ given
