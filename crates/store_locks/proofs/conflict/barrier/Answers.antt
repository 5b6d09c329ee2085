use Rattle.std.proofs.Common.{◌≡◌, ◌<◌, ◌∙◌, Some, get_or, length, sym, ap, refl}
use Rattle.std.specs.List.{slice_get}
use Rattle.std.proofs.lemmas.Option.{slice_get_read}
use Rattle.spec_model.specs.InTheWay.{least_with, holder_of}
use Rattle.store_locks.proofs.Barriers.{blocked_more, passed_more}
use Rattle.store_locks.proofs.conflict.barrier.Goals as goal
use Rattle.store_locks.proofs.conflict.barrier.Goals.{then-bars, else-bars}

pub loop-place-preserved : goal.loop-place-preserved
loop-place-preserved c =
    let holds = c.args.holds.now in
    let places = c.args.places.now in
    let i = c.loop-place.place-index in
    let h = c.index-holds-place.result in
    let within : get_or places i 0 < length holds = c.requires i 0 c.loop-place-test.true in
    let at : slice_get holds (get_or places i 0) ≡ Some h = slice_get_read holds (length holds) (get_or places i 0) h refl within c.index-holds-place.is in
    elim c.if-bars.branch [
      | then-bars w ↦ let step = blocked_more holds places i h c.args.tx c.args.request.now c.loop-place-test.true at (sym c.bars.ensures ∙ w.if-bars.true) in
          w.least-is ∙ (w.least_with-least.ensures ∙ (ap (λ best. least_with best (holder_of h)) c.loop-place.invariant ∙ sym step))
      | else-bars w ↦ let step = passed_more holds places i h c.args.tx c.args.request.now c.loop-place-test.true at (sym c.bars.ensures ∙ w.if-bars.false) in
          w.least-is ∙ (c.loop-place.invariant ∙ sym step)
    ]
