use Rattle.audit_roots.proofs.MergedFaults.{fault_is_merged}
use Rattle.audit_roots.proofs.groups.root_fault_is_merged.Goals as goal

pub returns : goal.returns
returns c = λ h i is. fault_is_merged h i is
