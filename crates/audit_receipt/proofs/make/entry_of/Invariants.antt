use Rattle.std.proofs.Common.{◌≡◌, drop}
use Rattle.audit_receipt.specs.Made.{entry_of}
use Rattle.audit_receipt.proofs.make.entry_of.Given as goal

abbrev pub invariant-loop-entry : goal.invariant-loop-entry
invariant-loop-entry l = entry_of l.tx l.block (drop l.entry-index l.entries) ≡ entry_of l.tx l.block l.entries
