use Rattle.std.proofs.Common.{◌≡◌, length}
use Rattle.audit_receipt.specs.Made.{part_at}
use Rattle.audit_receipt.proofs.make.part_at.Given as goal

abbrev pub invariant-each : goal.invariant-each
invariant-each l = part_at l.blocks l.entries l.left ≡ part_at l.fn.blocks l.fn.entries l.fn.block

abbrev pub decreases-each : goal.decreases-each
decreases-each l = length l.blocks
