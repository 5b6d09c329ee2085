use Rattle.std.proofs.Common.{◌≡◌, ◌++◌, drop, map}
use Rattle.spec_rules.specs.Places.{placed}
use Rattle.audit_rules.specs.Seen.{seen}
use Rattle.audit_rules.proofs.rows.placed_rows.Given as goal

abbrev pub invariant-loop-version : goal.invariant-loop-version
invariant-loop-version l =
    seen l.rows.items ++ map (placed l.positions) (drop l.version-index l.versions) ≡ map (placed l.positions) l.versions
