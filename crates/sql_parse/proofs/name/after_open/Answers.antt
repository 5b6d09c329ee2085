use Rattle.std.proofs.Common.{arith}
use Rattle.std.proofs.lemmas.Str.Pattern.{strip_prefix_char}
use Rattle.law_printing.proofs.Names.{opened}
use Rattle.sql_parse.proofs.name.after_open.Goals as goal

pub returns : goal.returns
returns c = opened c.args.text.now c.strip_prefix.result (strip_prefix_char 91 c.args.text.now c.strip_prefix.result c.strip_prefix.ensures.cases (omega arith))
