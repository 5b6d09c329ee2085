use Rattle.std.proofs.Common.{arith, ◌∙◌, sym, None}
use Rattle.std.proofs.lemmas.Str.Pattern.{strip_prefix_char}
use Rattle.sql_scalar.proofs.Reading.{stripped, either}
use Rattle.sql_scalar.proofs.literal.after_n.Goals as goal

pub returns-in-None : goal.returns-in-None
returns-in-None c =
    let text = c.args.text.now in
    let upper = stripped 78 text None (strip_prefix_char 78 text None c.in-None.ensures.cases (omega arith)) in
    let lower = c.strip_prefix-in-None in
    stripped 110 text lower.result (strip_prefix_char 110 text lower.result lower.ensures.cases (omega arith)) ∙ either text (sym upper)
