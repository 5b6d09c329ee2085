use Rattle.std.proofs.Common.{◌≡◌, ◌++◌, flat_map, drop}
use Rattle.audit_roots.specs.EventIds.{version_ids}
use Rattle.audit_roots.proofs.event_ids.add_versions.Given as goal

abbrev pub invariant-loop-version : goal.invariant-loop-version
invariant-loop-version l = l.ids.items ++ flat_map version_ids (drop l.version-index l.versions) ≡ l.initial.ids.items ++ flat_map version_ids l.versions
