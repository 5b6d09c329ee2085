use Rattle.std.proofs.Common.{arith, sym, of_calls}
use Rattle.store_order.proofs.Halving.{computed, failed, passed}
use Rattle.store_order.proofs.starts.Starts.partition_point.Goals as goal

pub loop-low-preserved-then-pred : goal.loop-low-preserved-then-pred
loop-low-preserved-then-pred g c =
    let middle = c.probe-middle.result in
    let inv = c.loop-low.invariant in (
      omega arith,
      omega arith,
      search of_calls,
      λ p key.
          let i = inv.3 p key in let next = computed p i.0 c.if-pred.ensures in
          (next.0, λ parted. (passed p c.args.self.now.list middle c.at.result (omega arith) c.at.ensures parted (sym next.1), (i.1 parted).1)),
    )

pub loop-low-preserved : goal.loop-low-preserved
loop-low-preserved g c =
    let middle = c.probe-middle.result in
    let inv = c.loop-low.invariant in (
      omega arith,
      omega arith,
      search of_calls,
      λ p key.
          let i = inv.3 p key in let next = computed p i.0 c.if-pred.ensures in
          (next.0, λ parted. ((i.1 parted).0, failed p c.args.self.now.list middle c.at.result (omega arith) c.at.ensures parted (sym next.1))),
    )
