use Rattle.std.proofs.Common.{ℕ, ◌≡◌, ◌≤◌, ◌+◌, ◌-◌, length, take, drop}
use Rattle.sql_types.specs.declared.entry.BlockRecord.{BlockRecord}
use Rattle.spec_verify.specs.declared.place.Place.TheVariants as at
use Rattle.spec_verify.specs.Blocks.{block_holds, entries_before}
use Rattle.spec_verify.specs.First.{unless, first_from}
use Rattle.audit_verify.specs.BlockParts.{faulty_block}
use Rattle.audit_verify.proofs.blocks.block_fault_in.Given as goal

abbrev pub invariant-loop-b : goal.invariant-loop-b
invariant-loop-b g l =
    let h = g.H.Hash32.digest l.fn.hasher in
    let found = λ (b : ℕ) (r : BlockRecord). unless (block_holds h l.image b r) (at.Block b) in
    record {
      rest : first_from found l.b (take (l.fn.from + l.fn.count - l.b) (drop l.b l.image.blocks)) ≡ faulty_block h l.image l.fn.from l.fn.count;
      before : l.before ≡ entries_before l.image l.b;
      within : l.before ≤ length l.image.entries;
    }
