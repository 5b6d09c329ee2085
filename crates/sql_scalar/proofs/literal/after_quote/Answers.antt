use Rattle.std.proofs.Common.{arith}
use Rattle.std.proofs.lemmas.Str.Pattern.{strip_prefix_char}
use Rattle.sql_scalar.proofs.Reading.{stripped}
use Rattle.sql_scalar.proofs.literal.after_quote.Goals as goal

pub returns : goal.returns
returns c = stripped 39 c.args.text.now c.strip_prefix.result (strip_prefix_char 39 c.args.text.now c.strip_prefix.result c.strip_prefix.ensures.cases (omega arith))
