-- Days from 0001-01-01.
use Rattle.std.proofs.Common.{zero, suc, ◌≡◌, ◌∙◌, ◌+◌, ◌-◌, ◌<◌, ◌≤◌, ◌+ℤ◌, ◌≤ℤ◌, ap, ℕ, ℤ, pos, refl, arith, inl, inr}
use Rattle.jiff_core.specs.Calendar.{IsCivilDate, days_from_civil, day_count, days_in_month}
use Rattle.jiff_core.proofs.CalendarLemmas.{days_from_civil-day_count, day_count-lt_year, day_count-day_of_year, day_count-day, day_count-next_month, day_count-next_year, day_count-last_of_year, day_count-end, days_in_month_bounds}
use Rattle.jiff_core.proofs.SignedLemmas.{signed_arith}
use Rattle.std.proofs.lemmas.Int.{by_lt_z}
use Rattle.std.proofs.lemmas.Bool.{cases_lt, lt-ltb, le-ltb}
use Rattle.jiff_core.specs.declared.civil.date.Date.{Date}
use Rattle.jiff_core.specs.Date.{epoch_day, IsYmd}
use Rattle.jiff_core.specs.Calendar.{IsYear}
use Rattle.jiff_core.proofs.DateLemmas.{epoch_day_injective}
use Rattle.sql_value.specs.declared.day.CivilDate.{CivilDate}
use Rattle.sql_value.specs.Day.{civil, next, date_of}
use Rattle.sql_value.proofs.Dates.{IsDate, first_count}

first_is : IsCivilDate (pos 1) 1 1
first_is = (omega (arith, signed_arith), omega arith, omega arith)

-- no date of the year 1 or later comes before 0001-01-01
pub from_first : (y : ℤ) (m d : ℕ) → pos 1 ≤ℤ y → IsCivilDate y m d → 3652791 ≤ day_count y m d
from_first y m d low is = by_lt_z (pos 1) y
    (λ lt. let more = day_count-lt_year (pos 1) 1 1 y m d first_is is.2.0 lt in omega (arith, first_count))
    (λ le.
    let one : y ≡ pos 1 = omega (arith, signed_arith) in
    let at = day_count-day_of_year y m d is.2.0 in
    let base : day_count y 1 1 ≡ 3652791 = rw one first_count in
    omega (arith, is))

-- the count from 1970 and the count from the year 1
pub from_unix : (y : ℤ) (m d : ℕ) → pos 1 ≤ℤ y → IsCivilDate y m d → days_from_civil y m d +ℤ pos 719162 ≡ pos (day_count y m d - day_count (pos 1) 1 1)
from_unix y m d low is = omega (arith, signed_arith, days_from_civil-day_count y m d, from_first y m d low is, first_count)

-- ---- the date of a day

abbrev pub count : CivilDate → ℕ
count c = day_count (pos c.year) c.month c.day

next_day : (y m d : ℕ) → d < days_in_month (pos y) m → next (civil y m d) ≡ civil y m (d + 1)
next_day y m d h = rw (lt-ltb d (days_in_month (pos y) m) h) refl

next_month : (y m d : ℕ) → days_in_month (pos y) m ≤ d → m < 12 → next (civil y m d) ≡ civil y (m + 1) 1
next_month y m d h k = rw (le-ltb d (days_in_month (pos y) m) h, lt-ltb m 12 k) refl

next_year : (y m d : ℕ) → days_in_month (pos y) m ≤ d → 12 ≤ m → next (civil y m d) ≡ civil (y + 1) 1 1
next_year y m d h k = rw (le-ltb d (days_in_month (pos y) m) h, le-ltb m 12 k) refl

-- the next date, if it isn't past the last, is one day later
abbrev StepsFrom : CivilDate → CivilDate → Type 0
StepsFrom c n = IsDate n × (count n ≡ count c + 1)

step : (y m d : ℕ) → IsDate (civil y m d) → count (civil y m d) < 7304849 → StepsFrom (civil y m d) (next (civil y m d))
step y m d is early = elim (cases_lt d (days_in_month (pos y) m)) [
  | inl more ↦
      rw (next_day y m d more) ((is.0, is.1, is.2, (omega arith, omega arith)), omega (arith, day_count-day (pos y) m d (d + 1) is.3.0 (omega arith)))
  | inr full ↦
      let whole : d ≡ days_in_month (pos y) m = omega (arith, is) in
      elim (cases_lt m 12) [
        | inl before ↦
            rw (next_month y m d full before) (
              (is.0, is.1, (omega arith, omega (arith, is)), (omega arith, omega (arith, days_in_month_bounds (pos y) (m + 1)))),
              omega (arith, whole, day_count-next_month (pos y) m is.2.0, day_count-day (pos y) m d 1 is.3.0 (omega arith)),
            )
        | inr december ↦
            let last : m ≡ 12 = omega (arith, is) in
            let day : d ≡ 31 = whole ∙ ap (days_in_month (pos y)) last in
            let end = day_count-last_of_year (pos y) in
            let here : count (civil y m d) ≡ day_count (pos y) 12 31 = rw (last, day) refl in
            let new = day_count-next_year (pos y) (pos (y + 1)) (omega (arith, signed_arith)) (omega (arith, signed_arith)) in
            let count_next : day_count (pos (y + 1)) 1 1 ≡ count (civil y m d) + 1 = omega (arith, end, here, new) in
            let in_time : y + 1 ≤ 9999 = elim (cases_lt y 9999) [
              | inl less ↦ omega arith
              | inr most ↦
                  let y9999 : y + 1 ≡ 10000 = omega (arith, is) in
                  absurd (omega (arith, early, count_next, rw y9999 at count_next, day_count-end))
            ] in
            rw (next_year y m d full december) ((omega arith, in_time, (omega arith, omega arith), (omega arith, omega arith)), count_next)
      ]
]

-- day n is n days after 0001-01-01
pub date_counts : (n : ℕ) → n ≤ 3652058 → IsDate (date_of n) × (count (date_of n) ≡ 3652791 + n)
unfolding date_of
date_counts zero small = ((omega arith, omega arith, (omega arith, omega arith), (omega arith, omega arith)), omega (arith, first_count))
date_counts (suc n) small =
    let before = date_counts n (omega arith) in
    let c = date_of n in
    let one = step c.year c.month c.day before.0 (omega (arith, before.1)) in
    (one.0, omega (arith, one.1, before.1))

-- the calendar's date of a day
pub date_is : (d : Date) (n : ℕ) → n ≤ 3652058 → epoch_day d +ℤ pos 719162 ≡ pos n → (d.year ≡ pos (date_of n).year) × (d.month ≡ (date_of n).month) × (d.day ≡ (date_of n).day)
date_is d n small at =
    let is = date_counts n small in
    let c = date_of n in
    let year_in : IsYear (pos c.year) = (omega (arith, signed_arith), omega (arith, signed_arith, is.0)) in
    let e : Date = record { year = pos c.year; month = c.month; day = c.day; year_in = year_in; month_in = is.0.2; day_in = is.0.3 } in
    let low : pos 1 ≤ℤ pos c.year = omega (arith, signed_arith, is.0) in
    let there = from_unix (pos c.year) c.month c.day low (year_in, is.0.2, is.0.3) in
    let same : epoch_day d ≡ epoch_day e = omega (arith, signed_arith, there, at, is.1, first_count) in
    epoch_day_injective d e same

pub date_small : (n : ℕ) → n ≤ 3652058 → IsDate (date_of n)
date_small n small = (date_counts n small).0

-- 0001-01-01 lies 719,162 days before 1970-01-01
pub first_epoch : (d : Date) → IsYmd (pos 1) (pos 1) (pos 1) d → epoch_day d +ℤ pos 719162 ≡ pos 0
first_epoch d h =
    let month : d.month ≡ 1 = omega (arith, signed_arith, h.1) in
    let day : d.day ≡ 1 = omega (arith, signed_arith, h.2) in
    let low : pos 1 ≤ℤ d.year = omega (arith, signed_arith, h.0) in
    let count : day_count d.year d.month d.day ≡ day_count (pos 1) 1 1 = rw (h.0, month, day) refl in
    let at = from_unix d.year d.month d.day low (d.year_in, d.month_in, d.day_in) in
    omega (arith, signed_arith, at, count)
