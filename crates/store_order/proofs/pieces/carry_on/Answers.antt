use Rattle.std.proofs.Common.{◌∙◌, arith, sym, ap, take, drop, length-set, ◌++◌, take-append-drop}
use Rattle.store_order.specs.Packed.{carried}
use Rattle.store_order.proofs.Carried.{carried_end, carried_more, carried_none}
use Rattle.store_order.proofs.pieces.carry_on.Goals as goal

pub returns-in_default : goal.returns-in_default
returns-in_default c =
    let ps = c.loop-place.pieces in let at = c.loop-place.place in
    sym (take-append-drop at ps) ∙ ap (λ l. take at ps ++ l) (sym (carried_none 512 (drop at ps)))
    ∙ ap (λ o. take at ps ++ carried 512 o (drop at ps)) (sym c.in_default.is) ∙ c.loop-place.invariant.same

pub loop-place-preserved : goal.loop-place-preserved
loop-place-preserved c =
    let ps = c.loop-place.pieces in let at = c.loop-place.place in let q = c.insert-carry.new.self in
    let count = length-set ps at q in record {
      within = omega arith;
      count = omega arith;
      same = carried_more 512 c.in-Some.start ps at c.index-pieces-place.result q c.insert-carry.result (omega arith) c.insert-carry.ensures.list c.insert-carry.ensures.left
          ∙ ap (λ o. take at ps ++ carried 512 o (drop at ps)) (sym c.in-Some.is) ∙ c.loop-place.invariant.same;
    }

pub returns : goal.returns
returns c = carried_end 512 c.loop-place.carry c.loop-place.pieces c.loop-place.place (omega arith) ∙ c.loop-place.invariant.same
