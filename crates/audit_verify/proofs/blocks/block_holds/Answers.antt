use Rattle.std.proofs.Common.{◌≡◌, ◌≤◌, ◌+◌, ◌-◌, ap, length, arith}
use Rattle.spec_model.specs.Limits.{max_block}
use Rattle.spec_verify.specs.Blocks.{entries_before}
use Rattle.audit_verify.proofs.Fitting.{entries_fit}
use Rattle.audit_verify.proofs.blocks.block_holds.Goals as goal

pub entries_root-requires-after_bounds : goal.entries_root-requires-after_bounds
entries_root-requires-after_bounds g c κs within_lives =
    let i = c.args.image.now in
    let size = c.args.block.now.size in
    let small : size ≤ max_block = omega (arith, c.if-from-block.false, c.from.ensures) in
    let within : entries_before i c.args.b + size ≤ length i.entries = omega (arith, c.if-entries-before.false, c.requires.within, c.requires.before, ap length c.as_slice-entries.ensures) in
    let alone : c.args.before + size - c.args.before ≡ size = omega arith in
    rw (alone, c.as_slice-entries.ensures, c.requires.before) (entries_fit i c.args.b c.args.block.now _ c.requires.image c.requires.block small within)
