use Rattle.std.proofs.Common.{◌≡◌, ◌≤◌, drop}
use Rattle.audit_any_receipt.specs.Wanted.{least_to}
use Rattle.audit_any_receipt.proofs.make.least_to.Given as goal

abbrev pub invariant-loop-digest : goal.invariant-loop-digest
invariant-loop-digest l = (least_to l.least (drop l.digest-index l.held) ≡ least_to l.block l.held) × (l.least ≤ l.block)
