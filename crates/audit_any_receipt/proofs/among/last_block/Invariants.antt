use Rattle.std.proofs.Common.{◌≡◌, drop}
use Rattle.audit_any_receipt.specs.Among.{last_block, last_block_from}
use Rattle.audit_any_receipt.proofs.among.last_block.Given as goal

abbrev pub invariant-loop-record : goal.invariant-loop-record
invariant-loop-record l = last_block_from l.block (drop l.record-index l.records) ≡ last_block l.records
