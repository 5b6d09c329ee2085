use Rattle.std.proofs.Common.{◌≡◌, ◌∙◌, pos, ap, arith, refl, FitsSigned}
use Rattle.std.specs.Int.{w8, w16}
use Rattle.std.proofs.lemmas.Int.{to_z-of_z}
use Rattle.jiff_core.proofs.CalendarLemmas.{days_in_month_bounds}
use Rattle.jiff_core.proofs.SignedLemmas.{signed_arith}
use Rattle.sql_value.specs.Day.{date_of}
use Rattle.sql_scalar.proofs.Days.{date_is, date_small}
use Rattle.sql_scalar.proofs.day.civil_of.Goals as goal

pub overflow_cast-result : goal.overflow_cast-result
overflow_cast-result c =
    let is = date_is c.date_of-date.result c.args.day c.requires c.date_of-date.ensures in
    let small = date_small c.args.day c.requires in
    let year : c.year.result ≡ pos (date_of c.args.day).year = c.year.ensures ∙ is.0 in
    let f : FitsSigned w16 c.year.result = omega (arith, signed_arith, year, small) in
    rw (to_z-of_z w16 c.year.result f, year) (tt, record { fits = omega (arith, small) })

pub returns-clause-value : goal.returns-clause-value
returns-clause-value c =
    let is = date_is c.date_of-date.result c.args.day c.requires c.date_of-date.ensures in
    let small = date_small c.args.day c.requires in
    let year : c.year.result ≡ pos (date_of c.args.day).year = c.year.ensures ∙ is.0 in
    let month : c.month.result ≡ pos (date_of c.args.day).month = c.month.ensures ∙ ap pos is.1 in
    let day : c.day.result ≡ pos (date_of c.args.day).day = c.day.ensures ∙ ap pos is.2 in
    let f : FitsSigned w16 c.year.result = omega (arith, signed_arith, year, small) in
    let g : FitsSigned w8 c.month.result = omega (arith, signed_arith, c.month.ensures, c.date_of-date.result.month_in) in
    let last = days_in_month_bounds c.date_of-date.result.year c.date_of-date.result.month in
    let h : FitsSigned w8 c.day.result = omega (arith, signed_arith, c.day.ensures, c.date_of-date.result.day_in, last) in
    rw (to_z-of_z w16 c.year.result f, year, to_z-of_z w8 c.month.result g, month, to_z-of_z w8 c.day.result h, day) refl
