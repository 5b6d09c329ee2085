use Rattle.cli_audit.proofs.AsOfLemmas.{ends_refusing}
use Rattle.cli_audit.proofs.asof.say.Goals as goal

pub returns-in-Refused-clause-ends : goal.returns-in-Refused-clause-ends
returns-in-Refused-clause-ends g c = rw c.in-Refused.is (ends_refusing _ c.in-Refused.verdict _ _ _ _ c.refuse.result c.refuse.ensures.ends)
