-- Moments, and their texts in ISO 8601.
use Rattle.std.specs.Prelude.{◌≡◌, ◌*◌, ℕ, pos, List, Some, false}
use Rattle.std.specs.Str.{byte}
use Rattle.jiff_core.specs.declared.civil.datetime.DateTime.{DateTime}
use Rattle.jiff_core.specs.DateTime.{civil_nanos}
use Rattle.jiff_fmt.specs.Text.{datetime_text}

-- the date and the time of day so many ticks of 100 ns after 1970-01-01T00:00:00, with `T` between them,
-- seven decimals
-- and no zone
abbrev pub IsMomentText : ℕ → List ℕ → Type 0
IsMomentText ticks text = (at : DateTime) × (civil_nanos at ≡ pos (ticks * 100))
    × (text ≡ datetime_text false (byte "T") (Some 7) at)
