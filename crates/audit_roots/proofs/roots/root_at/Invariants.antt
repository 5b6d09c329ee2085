use Rattle.std.proofs.Common.{◌≡◌, drop}
use Rattle.spec_verify.specs.Entries.{root_at}
use Rattle.audit_roots.proofs.roots.root_at.Given as goal

abbrev pub invariant-loop-root : goal.invariant-loop-root
invariant-loop-root l = root_at (drop l.root-index l.roots) l.table ≡ root_at l.roots l.table
