use Rattle.std.proofs.Common.{arith}
use Rattle.audit_roots.specs.EventIds.{version_ids}
use Rattle.audit_roots.proofs.Owned.{part_next}
use Rattle.audit_roots.proofs.event_ids.add_versions.Goals as goal

pub loop-version-preserved : goal.loop-version-preserved
loop-version-preserved c =
    part_next version_ids _ _ _ c.args.versions.now c.loop-version.version-index c.version-item.result (omega (arith, c.loop-version-test.true)) c.version-item.is
    c.in_ok-add_version.ensures c.loop-version.invariant
