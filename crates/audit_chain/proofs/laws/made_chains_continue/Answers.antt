use Rattle.audit_chain.proofs.Continuing.{made_continues}
use Rattle.audit_chain.proofs.laws.made_chains_continue.Goals as goal

pub returns : goal.returns
returns c = λ h i from newest digests is chain blocks holds all le within. made_continues h i is chain blocks from newest digests holds all le within
