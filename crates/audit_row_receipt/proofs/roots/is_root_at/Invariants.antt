use Rattle.std.proofs.Common.{◌≡◌, drop}
use Rattle.spec_verify.specs.Entries.{root_at}
use Rattle.audit_receipt.specs.Tests.{is_root}
use Rattle.audit_row_receipt.proofs.roots.is_root_at.Given as goal

abbrev pub invariant-loop-own : goal.invariant-loop-own
invariant-loop-own l = is_root l.root (root_at (drop l.own-index l.roots) l.table) ≡ is_root l.root (root_at l.roots l.table)
