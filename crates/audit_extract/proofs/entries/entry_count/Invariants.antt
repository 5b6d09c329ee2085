use Rattle.std.proofs.Common.{◌≡◌, ◌+◌, drop}
use Rattle.std.specs.List.{sum_by}
use Rattle.sql_types.specs.declared.entry.BlockRecord.{BlockRecord}
use Rattle.audit_extract.proofs.entries.entry_count.Given as goal

abbrev pub invariant-loop-block : goal.invariant-loop-block
invariant-loop-block l = l.count + sum_by (λ (r : BlockRecord). r.size) (drop l.block-index l.blocks) ≡ sum_by (λ (r : BlockRecord). r.size) l.blocks
