use Rattle.std.proofs.Common.{ℕ, ◌≡◌, drop}
use Rattle.sql_types.specs.declared.entry.BlockRecord.{BlockRecord}
use Rattle.spec_verify.specs.declared.place.Place.TheVariants as at
use Rattle.spec_verify.specs.Blocks.{link_holds, hash_before}
use Rattle.spec_verify.specs.First.{unless, first, first_from}
use Rattle.audit_verify.proofs.blocks.chain_fault.Given as goal

abbrev pub invariant-loop-b : goal.invariant-loop-b
invariant-loop-b g l =
    let h = g.H.Hash32.digest l.fn.hasher in
    let found = λ (b : ℕ) (r : BlockRecord). unless (link_holds h l.image b r) (at.Block b) in
    record {
      rest : first_from found l.b (drop l.b l.image.blocks) ≡ first found l.image.blocks;
      before : l.before ≡ hash_before h l.image l.b;
    }
