use Rattle.audit_paths.proofs.path.+root_under.Given as goal

abbrev pub decreases-root_under : goal.decreases-root_under
decreases-root_under g l = l.count
