use Rattle.audit_chain.proofs.Histories.{older_holds}
use Rattle.audit_chain.proofs.laws.accepted_chains_tell_one_history.Goals as goal

pub returns : goal.returns
returns c = λ h chain older newer i fc joins is linked blocks holds. older_holds h i is linked blocks chain older newer fc joins holds
