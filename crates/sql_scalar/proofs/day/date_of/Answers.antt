use Rattle.std.proofs.Common.{◌∙◌, arith, FitsSigned, w64}
use Rattle.std.specs.Prelude.{◌+ℤ◌}
use Rattle.std.proofs.lemmas.Int.{to_z-of_z}
use Rattle.jiff_core.specs.Calendar.{IsEpochDay}
use Rattle.jiff_core.specs.Date.{epoch_day}
use Rattle.jiff.proofs.SpanFacts.{signed_arith, date_add-days, can_add-days}
use Rattle.sql_scalar.proofs.Days.{first_epoch}
use Rattle.sql_scalar.proofs.day.date_of.Goals as goal

pub unwrap-requires : goal.unwrap-requires
unwrap-requires c =
    let start = c.date.result in
    let first = first_epoch start c.date.ensures in
    let f : FitsSigned w64 c.from.result = omega (arith, signed_arith, c.from.ensures, c.requires) in
    let only = simp to_z-of_z at c.days.ensures in
    let there : IsEpochDay (epoch_day start +ℤ c.from.result) = omega (arith, signed_arith, first, c.from.ensures, c.requires) in
    c.checked_add.ensures.succeeds.1 ((can_add-days start c.from.result c.days.result only).1 there)

pub returns : goal.returns
returns c =
    let start = c.date.result in
    let first = first_epoch start c.date.ensures in
    let f : FitsSigned w64 c.from.result = omega (arith, signed_arith, c.from.ensures, c.requires) in
    let only = simp to_z-of_z at c.days.ensures in
    let after = date_add-days start c.from.result c.days.result only in
    let value = rw c.unwrap.ensures at c.checked_add.ensures.value in
    omega (arith, signed_arith, first, value ∙ after, c.from.ensures)
