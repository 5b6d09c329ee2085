-- Days of the proleptic Gregorian calendar (ISO 8601), from 0001-01-01 to 9999-12-31.
use Rattle.std.specs.Prelude.{ℕ, zero, suc, pos, ◌+◌, ◌-◌, ◌*◌, ◌/◌, ◌%◌, ◌==◌, ◌&&◌, nat_lt, nat_le, Bool, if◌then◌else◌, List, [], ◌∷◌, ◌++◌, Option, Some, None, option_and_then}
use Rattle.std.specs.Char.{is_ascii_digit}
use Rattle.jiff_core.specs.Calendar.{days_in_month, day_count}
use Rattle.sql_value.specs.declared.day.CivilDate.{CivilDate}

-- a year, a month and a day
abbrev pub civil : ℕ → ℕ → ℕ → CivilDate
civil y m d = record { year = y; month = m; day = d }

-- the calendar has this date, in the years 1 to 9999
abbrev pub is_date : CivilDate → Bool
is_date c =
    (nat_le 1 c.year && nat_le c.year 9999)
    && ((nat_le 1 c.month && nat_le c.month 12)
    && (nat_le 1 c.day && nat_le c.day (days_in_month (pos c.year) c.month)))

-- the number of a date: how many days lie between 0001-01-01 and it
unfoldable pub number_of : CivilDate → ℕ
number_of c = day_count (pos c.year) c.month c.day - day_count (pos 1) 1 1

-- the date after a date
abbrev pub next : CivilDate → CivilDate
next c =
    if nat_lt c.day (days_in_month (pos c.year) c.month) then civil c.year c.month (c.day + 1)
    else (if nat_lt c.month 12 then civil c.year (c.month + 1) 1 else civil (c.year + 1) 1 1)

-- the date of day n: the one n days after 0001-01-01
unfoldable pub date_of : ℕ → CivilDate
date_of zero = civil 1 1 1
date_of (suc n) = next (date_of n)

-- 9999-12-31
abbrev pub last_day : ℕ
last_day = 3652058

-- two digits
abbrev pub pad2 : ℕ → List ℕ
pad2 n = (48 + n / 10) ∷ (48 + n % 10) ∷ []

-- `YYYY-MM-DD`
abbrev pub date_text : CivilDate → List ℕ
date_text c = pad2 (c.year / 100) ++ pad2 (c.year % 100) ++ 45 ∷ pad2 c.month ++ 45 ∷ pad2 c.day

-- the number that two digits write
abbrev pub two_digits : ℕ → ℕ → Option ℕ
two_digits a b = if is_ascii_digit a && is_ascii_digit b then Some ((a - 48) * 10 + (b - 48)) else None

-- the date that such a text writes
abbrev pub as_date : Option ℕ → Option ℕ → Option ℕ → Option ℕ → Option CivilDate
as_date (Some century) (Some year) (Some month) (Some day) = Some (civil (century * 100 + year) month day)
as_date _ _ _ _ = None

-- the year, month and day that a text in the form `YYYY-MM-DD` writes
unfoldable pub written_date : List ℕ → Option CivilDate
written_date (a ∷ b ∷ c ∷ d ∷ p ∷ e ∷ f ∷ q ∷ g ∷ h ∷ []) =
    if p == 45 && q == 45
    then as_date (two_digits a b) (two_digits c d) (two_digits e f) (two_digits g h)
    else None
written_date _ = None

abbrev pub day_if : CivilDate → Option ℕ
day_if c = if is_date c then Some (number_of c) else None

-- the number of the day that a text writes, where it is a date in the form `YYYY-MM-DD`
unfoldable pub day_of : List ℕ → Option ℕ
day_of text = option_and_then day_if (written_date text)
