use Rattle.std.proofs.Common.{◌+ℤ◌, ◌∙◌, pos, ap, arith, refl, FitsSigned, w32}
use Rattle.std.proofs.lemmas.Int.{to_z-of_z}
use Rattle.jiff_core.specs.Date.{epoch_day}
use Rattle.jiff_core.proofs.SignedLemmas.{signed_arith}
use Rattle.sql_scalar.proofs.Days.{from_unix}
use Rattle.sql_scalar.proofs.day.number_of.Goals as goal

pub overflow_cast-result : goal.overflow_cast-result
overflow_cast-result c =
    let date = c.args.date in
    let is = from_unix date.year date.month date.day c.requires (date.year_in, date.month_in, date.day_in) in
    let z = c.to_unix_epoch_day.result in
    let f : FitsSigned w32 z = omega (arith, signed_arith, c.to_unix_epoch_day.ensures.bound) in
    let g : FitsSigned w32 (z +ℤ pos 719162) = omega (arith, signed_arith, c.to_unix_epoch_day.ensures.bound) in
    let n = ap (λ x. x +ℤ pos 719162) (c.to_unix_epoch_day.ensures.value ∙ ap epoch_day c.to_plain.ensures) ∙ is in
    rw (to_z-of_z w32 z f, to_z-of_z w32 (z +ℤ pos 719162) g, n) (tt, record { fits = omega (arith, signed_arith, c.to_unix_epoch_day.ensures.bound, n) })

pub returns : goal.returns
returns c =
    let date = c.args.date in
    let is = from_unix date.year date.month date.day c.requires (date.year_in, date.month_in, date.day_in) in
    let z = c.to_unix_epoch_day.result in
    let f : FitsSigned w32 z = omega (arith, signed_arith, c.to_unix_epoch_day.ensures.bound) in
    let g : FitsSigned w32 (z +ℤ pos 719162) = omega (arith, signed_arith, c.to_unix_epoch_day.ensures.bound) in
    let n = ap (λ x. x +ℤ pos 719162) (c.to_unix_epoch_day.ensures.value ∙ ap epoch_day c.to_plain.ensures) ∙ is in
    rw (to_z-of_z w32 z f, to_z-of_z w32 (z +ℤ pos 719162) g, n) refl
