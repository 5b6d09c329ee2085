use Rattle.std.proofs.Common.{◌≡◌, ◌≤◌, ◌-◌, ◌++◌, drop, map, length}
use Rattle.audit_roots.specs.Marks.{event_of}
use Rattle.audit_roots.specs.Roots.{roots_in}
use Rattle.audit_roots.proofs.roots.put_roots.Given as goal

abbrev pub invariant-groups : goal.invariant-groups
invariant-groups g l = record {
  within : l.at ≤ length l.marks;
  roots : l.roots.items ++ roots_in (g.H.Hash32.digest l.fn.hasher) (map event_of (drop l.at l.marks)) ≡ roots_in (g.H.Hash32.digest l.fn.hasher) (map event_of l.marks);
}

abbrev pub decreases-groups : goal.decreases-groups
decreases-groups g l = length l.marks - l.at
