use Rattle.std.proofs.Common.{◌≡◌, drop}
use Rattle.audit_any_receipt.specs.Among.{first_of_block}
use Rattle.audit_any_receipt.proofs.among.first_of_block.Given as goal

abbrev pub invariant-loop-digest : goal.invariant-loop-digest
invariant-loop-digest l = first_of_block l.block (drop l.digest-index l.digests) ≡ first_of_block l.block l.digests
