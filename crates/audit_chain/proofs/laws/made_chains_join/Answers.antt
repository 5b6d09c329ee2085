use Rattle.audit_chain.proofs.Histories.{made_joins}
use Rattle.audit_chain.proofs.laws.made_chains_join.Goals as goal

pub returns : goal.returns
returns c = λ h i older newer is chain blocks old new le. made_joins h i is chain blocks older newer old new le
