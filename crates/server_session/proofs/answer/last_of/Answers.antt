use Rattle.std.proofs.Common.{◌-◌, length, arith}
use Rattle.server_session.proofs.LastAnswers.{last_at}
use Rattle.server_session.proofs.answer.last_of.Goals as goal

pub returns-in-len1-up : goal.returns-in-len1-up
returns-in-len1-up c = last_at c.args.script.now (length c.args.script.now - 1) c.last-item.result (omega (arith, c.in-len1-up.len_at_least)) c.last-item.is
