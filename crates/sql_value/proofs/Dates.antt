-- Dates of the calendar, and the days that texts write.
use Rattle.std.proofs.Common.{◌≡◌, ◌≤◌, ℕ, Bool, true, false, List, refl, arith, rules, Option, Some, None}
use Rattle.std.specs.Prelude.{pos, ◌&&◌, nat_le, option_and_then}
use Rattle.std.specs.Int.{IsInRange}
use Rattle.std.proofs.lemmas.Bool.{leb-true, and_parts}
use Rattle.jiff_core.specs.Calendar.{day_count, days_in_month, IsCivilDate}
use Rattle.jiff_core.proofs.CalendarLemmas.{day_count_bounds}
use Rattle.jiff_core.proofs.MarchLemmas.{day_count-early}
use Rattle.jiff_core.proofs.SignedLemmas.{signed_arith}
use Rattle.sql_value.specs.declared.day.CivilDate.{CivilDate}
use Rattle.sql_value.specs.Day.{is_date, number_of, last_day, written_date, day_if, day_of}

pub first_count : day_count (pos 1) 1 1 ≡ 3652791
first_count = day_count-early (pos 1) 10000 1 1 refl (omega arith) (omega arith) (omega arith)

-- a date of the years 1 to 9999
abbrev pub IsDate : CivilDate → Type 0
IsDate c = (1 ≤ c.year) × (c.year ≤ 9999) × IsInRange 1 12 c.month × IsInRange 1 (days_in_month (pos c.year) c.month) c.day

tested_date : (c : CivilDate) → is_date c ≡ true → IsDate c
tested_date c h =
    let halves = and_parts (nat_le 1 c.year && nat_le c.year 9999) _ h in
    let year = and_parts (nat_le 1 c.year) (nat_le c.year 9999) halves.0 in
    let rest = and_parts (nat_le 1 c.month && nat_le c.month 12) (nat_le 1 c.day && nat_le c.day (days_in_month (pos c.year) c.month)) halves.1 in
    let month = and_parts (nat_le 1 c.month) (nat_le c.month 12) rest.0 in
    let day = and_parts (nat_le 1 c.day) (nat_le c.day (days_in_month (pos c.year) c.month)) rest.1 in
    (leb-true _ _ year.0, leb-true _ _ year.1, (leb-true _ _ month.0, leb-true _ _ month.1), (leb-true _ _ day.0, leb-true _ _ day.1))

number_bound : (c : CivilDate) → IsDate c → number_of c ≤ last_day
unfolding number_of
number_bound c h =
    let is : IsCivilDate (pos c.year) c.month c.day = ((omega (arith, signed_arith), omega (arith, signed_arith, h)), h.2, h.3) in
    omega (arith, day_count_bounds (pos c.year) c.month c.day is, first_count)

some_same : (m n : ℕ) → Some m ≡ Some n → m ≡ n
some_same m n e = search rules

if_bound : (c : CivilDate) (n : ℕ) (t : Bool) → is_date c ≡ t → day_if c ≡ Some n → n ≤ last_day
if_bound c n true h is =
    let number : number_of c ≡ n = some_same (number_of c) n (rw h at is) in
    rw (← number) (number_bound c (tested_date c h))
if_bound c n false h is = absurd (search (rules, rw h at is))

day_bound_of : (o : Option CivilDate) (n : ℕ) → option_and_then day_if o ≡ Some n → n ≤ last_day
day_bound_of None n is = absurd (search rules)
day_bound_of (Some c) n is = if_bound c n (is_date c) refl is

-- a text that is a day is one of the calendar's
pub day_bound : (text : List ℕ) (n : ℕ) → day_of text ≡ Some n → n ≤ last_day
unfolding day_of
day_bound text n is = day_bound_of (written_date text) n is
