use Rattle.std.proofs.Common.{◌∙◌}
use Rattle.server_step.proofs.Places.{as_many_before}
use Rattle.server_step.proofs.number.number_of.Goals as goal

pub returns : goal.returns
returns c = c.others_before.ensures ∙ as_many_before c.args.name.now c.args.sessions.now
