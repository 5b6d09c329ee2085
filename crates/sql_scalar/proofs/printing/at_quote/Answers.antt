use Rattle.std.proofs.Common.{arith}
use Rattle.std.proofs.lemmas.Str.Pattern.{split_parts}
use Rattle.sql_scalar.proofs.Doubling.{doubled_parts}
use Rattle.sql_scalar.proofs.printing.at_quote.Goals as goal

pub returns : goal.returns
returns c = doubled_parts c.args.rest.now c.split_once.result (split_parts 39 c.args.rest.now c.split_once.result c.split_once.ensures.cases (omega arith))
