use Rattle.std.proofs.Common.{arith}
use Rattle.store_blocks.proofs.Places.{one_more}
use Rattle.store_blocks.proofs.placing.place_between.Goals as goal

pub loop-place-preserved : goal.loop-place-preserved
loop-place-preserved c = (
  omega (arith, c.loop-place.invariant.0),
  one_more c.args.block c.args.from c.loop-place.place c.args.entries.now.items c.loop-place.entries.items
      c.index_mut.result.now c.place_at.new.entry c.loop-place.invariant.0 (omega (arith, c.loop-place-test.true))
      c.loop-place.invariant.1 c.index_mut.ensures.value c.place_at.ensures,
)
