use Rattle.audit_roots.proofs.MergedFaults.{groups_merge}
use Rattle.audit_roots.proofs.groups.roots_of_groups_merge.Goals as goal

pub returns : goal.returns
returns c = λ h first second entries. groups_merge h first second entries
