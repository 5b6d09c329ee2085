use Rattle.format_reply.proofs.Shown.{number_small, number_utf8}
use Rattle.format_reply.proofs.utf8.number_shows_utf8.Goals as goal

pub returns : goal.returns
returns c = number_utf8 c.args.v c.args.s (number_small c.args.v c.ranges.v)
