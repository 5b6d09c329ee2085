use Rattle.std.proofs.Common.{◌≡◌, ◌++◌, map, flat_map, drop}
use Rattle.std.specs.List.{All}
use Rattle.spec_model.specs.Events.{version_events}
use Rattle.audit_roots.specs.Marks.{event_of, HasValues}
use Rattle.audit_roots.proofs.marks.add_versions.Given as goal

abbrev pub invariant-loop-version : goal.invariant-loop-version
invariant-loop-version l = record {
  values : All HasValues l.initial.marks.items → All HasValues l.marks.items;
  events : map event_of l.marks.items ++ flat_map (version_events l.table) (drop l.version-index l.versions)
      ≡ map event_of l.initial.marks.items ++ flat_map (version_events l.table) l.versions;
}
