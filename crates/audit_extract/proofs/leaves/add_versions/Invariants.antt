use Rattle.std.proofs.Common.{◌≡◌, ◌++◌, drop, map, flat_map}
use Rattle.spec_model.specs.Events.{version_events}
use Rattle.audit_extract.specs.Leaves.{leaf_of}
use Rattle.audit_extract.proofs.leaves.add_versions.Given as goal

abbrev pub invariant-loop-version : goal.invariant-loop-version
invariant-loop-version l =
    l.leaves.items ++ map leaf_of (flat_map (version_events l.table) (drop l.version-index l.versions))
    ≡ l.initial.leaves.items ++ map leaf_of (flat_map (version_events l.table) l.versions)
