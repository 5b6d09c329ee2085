use Rattle.std.proofs.Common.{rules, arith, ◌^◌, ◌≤◌, ◌-◌, length}
use Rattle.std.proofs.lemmas.Iterator.{YieldsList-from_chars}
use Rattle.std.proofs.lemmas.Iterator.Adapters.{fits_from_length, at_most_from_yields_List}
use Rattle.std.specs.Str.{chars}
use Rattle.sql_scalar.proofs.Texts.{chars_few}
use Rattle.sql_scalar.proofs.text.units_of.Goals as goal

-- each character has at most two units, and there are no more characters than bytes
pub sum-requires-clause-fits : goal.sum-requires-clause-fits
sum-requires-clause-fits c =
    let text = c.args.text.now in
    let few : length (chars text) ≤ 2 ^ 63 - 1 = omega (arith, chars_few text c.utf8.text, c.type_inv.text) in
    fits_from_length _ _ (2 ^ 63 - 1) (2 ^ 64) (at_most_from_yields_List (YieldsList-from_chars {s = c.map.result.iter} text c.utf8.text (search rules)) few) c.map.ensures.closure (omega arith) (λ x r q k. search (rules, arith))
