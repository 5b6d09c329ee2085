use Rattle.std.proofs.Common.{arith}
use Rattle.spec_model.specs.Events.{version_events}
use Rattle.audit_roots.proofs.Owned.{part_next}
use Rattle.audit_roots.proofs.marks.add_versions.Goals as goal

pub loop-version-preserved : goal.loop-version-preserved
loop-version-preserved c = record {
  values = λ h. c.in_ok-add_version.ensures.values (c.loop-version.invariant.values h);
  events = part_next (version_events c.args.table) _ _ _ c.args.versions.now c.loop-version.version-index c.version-item.result (omega (arith, c.loop-version-test.true)) c.version-item.is
      c.in_ok-add_version.ensures.events c.loop-version.invariant.events;
}
