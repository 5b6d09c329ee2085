use Rattle.std.proofs.Common.{arith, ◌^◌, ap, ◌∙◌}
use Rattle.sql_value.proofs.Numbers.{ten_pos}
use Rattle.sql_scalar.proofs.Rounding.{many_places, rounded_away, quotient_small}
use Rattle.sql_scalar.proofs.number.rounded_size.Goals as goal

pub nonzero_div-result-in-Some : goal.nonzero_div-result-in-Some
nonzero_div-result-in-Some c = omega (arith, c.in-Some.ensures.1, c.into.ensures, ten_pos c.args.places, ap (λ k. 10 ^ k) c.into.ensures)

pub returns-in-None-clause-value : goal.returns-in-None-clause-value
returns-in-None-clause-value c = rounded_away c.args.size c.args.places c.requires (many_places c.args.places (simp c.into.ensures at c.in-None.ensures))

pub returns-in-Some-clause-small : goal.returns-in-Some-clause-small
returns-in-Some-clause-small c = λ some. quotient_small c.args.size c.args.places c.in-Some.unit (c.in-Some.ensures.1 ∙ ap (λ k. 10 ^ k) c.into.ensures) c.requires some
