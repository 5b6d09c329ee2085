use Rattle.std.proofs.Common.{arith}
use Rattle.std.proofs.lemmas.Str.Pattern.{strip_suffix_char}
use Rattle.law_printing.proofs.Names.{shut}
use Rattle.sql_parse.proofs.name.before_close.Goals as goal

pub returns : goal.returns
returns c = shut c.args.text.now c.strip_suffix.result (strip_suffix_char 93 c.args.text.now c.strip_suffix.result c.strip_suffix.ensures.cases (omega arith))
