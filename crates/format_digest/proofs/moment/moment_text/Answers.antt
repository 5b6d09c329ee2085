use Rattle.std.proofs.Common.{rules}
use Rattle.format_digest.proofs.moment.moment_text.Goals as goal

pub returns : goal.returns
returns c = (c.unwrap-moment.result, search rules, search rules)
