-- Days, their numbers and their texts.
use Rattle.std.proofs.Common.{◌≡◌, ◌<◌, ◌≤◌, ℕ, ◌+◌, ◌-◌, ◌*◌, ◌/◌, ◌%◌, true, false, ap, refl, arith, Some}
use Rattle.std.specs.Prelude.{pos, ◌==◌}
use Rattle.std.specs.Char.{is_ascii_digit}
use Rattle.std.proofs.lemmas.Bool.{le-leb}
use Rattle.std.proofs.lemmas.Bool.Decides.{nat_tests}
use Rattle.jiff_core.specs.Calendar.{day_count, days_in_month}
use Rattle.jiff_core.proofs.CalendarLemmas.{days_in_month_bounds}
use Rattle.sql_value.specs.declared.day.CivilDate.{CivilDate}
use Rattle.sql_value.specs.Day.{is_date, number_of, date_of, last_day, two_digits, written_date, day_of, date_text}
use Rattle.sql_value.specs.Printed.{doubled}
use Rattle.sql_value.proofs.Dates.{IsDate, first_count}
use Rattle.sql_scalar.proofs.Days.{date_counts}

read_two : (n : ℕ) → n < 100 → two_digits (48 + n / 10) (48 + n % 10) ≡ Some n
read_two n h =
    let tens : is_ascii_digit (48 + n / 10) ≡ true = grind (arith, nat_tests) in
    let ones : is_ascii_digit (48 + n % 10) ≡ true = grind (arith, nat_tests) in
    rw (tens, ones) (ap Some (omega arith))

-- a date's text is read as the date
pub text_written : (c : CivilDate) → c.year < 10000 → c.month < 100 → c.day < 100 → written_date (date_text c) ≡ Some c
unfolding written_date
text_written c y m d =
    let year : c.year / 100 * 100 + c.year % 100 ≡ c.year = omega arith in
    rw (read_two (c.year / 100) (omega arith), read_two (c.year % 100) (omega arith), read_two c.month m, read_two c.day d, year) refl

date_tested : (c : CivilDate) → IsDate c → is_date c ≡ true
date_tested c h =
    rw (le-leb 1 c.year h.0, le-leb c.year 9999 h.1, le-leb 1 c.month h.2.0, le-leb c.month 12 h.2.1, le-leb 1 c.day h.3.0, le-leb c.day (days_in_month (pos c.year) c.month) h.3.1) refl

small_day : (c : CivilDate) → IsDate c → (c.year < 10000) × (c.month < 100) × (c.day < 100)
small_day c h = (omega (arith, h), omega (arith, h), omega (arith, h, days_in_month_bounds (pos c.year) c.month))

-- a day's text is read as the day
pub day_read : (n : ℕ) → n ≤ last_day → day_of (date_text (date_of n)) ≡ Some n
unfolding day_of number_of
day_read n h =
    let is = date_counts n h in
    let c = date_of n in
    let small = small_day c is.0 in
    let number : day_count (pos c.year) c.month c.day - day_count (pos 1) 1 1 ≡ n = omega (arith, is.1, first_count) in
    rw (text_written c small.0 small.1 small.2, date_tested c is.0) (ap Some number)

not_quote : (n : ℕ) → ((48 + n) == 39) ≡ false
not_quote n = grind (arith, nat_tests)

-- a date's text has no quote
pub date_doubled : (c : CivilDate) → doubled (date_text c) ≡ date_text c
date_doubled c =
    rw (not_quote (c.year / 100 / 10), not_quote (c.year / 100 % 10), not_quote (c.year % 100 / 10), not_quote (c.year % 100 % 10), not_quote (c.month / 10), not_quote (c.month % 10), not_quote (c.day / 10), not_quote (c.day % 10)) refl
