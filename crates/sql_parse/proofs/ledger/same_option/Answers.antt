use Rattle.std.proofs.Common.{rules}
use Rattle.spec_syntax.specs.Ledger.{same_option}
use Rattle.sql_parse.proofs.ledger.same_option.Goals as goal

pub returns : goal.returns
unfolding same_option
returns c = search rules
