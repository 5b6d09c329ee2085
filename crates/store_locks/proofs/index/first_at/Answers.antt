use Rattle.std.proofs.Common.{◌<◌, ◌+◌, ◌-◌, ◌/◌, arith, length, sym, ◌∙◌}
use Rattle.store_locks.proofs.Indexes.{all_before, none_before}
use Rattle.store_locks.proofs.index.first_at.Goals as goal

pub loop-low-preserved-then-item_is_before : goal.loop-low-preserved-then-item_is_before
loop-low-preserved-then-item_is_before c =
    let mid = c.loop-low.low + (c.loop-low.high - c.loop-low.low) / 2 in
    let inside : mid < length c.args.places.now = omega arith in
    record {
      order = omega arith;
      bound = c.loop-low.invariant.bound;
      before = all_before c.args.holds.now c.args.places.now c.args.item.now mid c.requires inside (sym c.item_is_before.ensures ∙ c.if-item_is_before.true);
      behind = c.loop-low.invariant.behind;
    }

pub loop-low-preserved : goal.loop-low-preserved
loop-low-preserved c =
    let mid = c.loop-low.low + (c.loop-low.high - c.loop-low.low) / 2 in
    record {
      order = omega arith;
      bound = omega arith;
      before = c.loop-low.invariant.before;
      behind = none_before c.args.holds.now c.args.places.now c.args.item.now mid c.requires (sym c.item_is_before.ensures ∙ c.if-item_is_before.false);
    }
