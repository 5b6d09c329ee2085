use Rattle.std.proofs.Common.{◌∙◌, ◌+◌, arith, sym, set, length-set}
use Rattle.store_order.proofs.Filled.{filled_last, filled_more, filled_stop}
use Rattle.store_order.proofs.pieces.fill_up.Goals as goal

pub returns-in_default : goal.returns-in_default
returns-in_default c =
    filled_stop 512 c.loop-place.pieces c.loop-place.place c.index-pieces-place.result c.remove.new.self c.loop-place-test.true c.remove.ensures.list
    (sym c.remove.ensures.taken ∙ c.in_default.is)
    ∙ c.loop-place.invariant.same

pub loop-place-preserved : goal.loop-place-preserved
loop-place-preserved c =
    let ps = c.loop-place.pieces in let at = c.loop-place.place in let q = c.remove.new.self in let r = c.push.new.self in
    let one = length-set ps (at + 1) q in let count = length-set (set ps (at + 1) q) at r in record {
      within = omega arith;
      count = omega arith;
      same = filled_more 512 c.in-Some.start ps at c.index-pieces-place.result c.index-pieces-place-in-loop-place.result q r (omega arith) c.remove.ensures.list c.push.ensures (sym c.remove.ensures.taken ∙ c.in-Some.is)
          ∙ c.loop-place.invariant.same;
    }

pub returns : goal.returns
returns c = filled_last 512 c.loop-place.pieces c.loop-place.place (omega arith) ∙ c.loop-place.invariant.same
