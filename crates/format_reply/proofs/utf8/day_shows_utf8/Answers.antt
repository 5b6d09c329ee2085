use Rattle.std.proofs.Common.{arith}
use Rattle.format_reply.proofs.Shown.{day_utf8}
use Rattle.format_reply.proofs.utf8.day_shows_utf8.Goals as goal

pub returns : goal.returns
returns c = day_utf8 c.args.day (omega (arith, c.ranges.day.fits)) c.days_are_read_back.ensures.read
