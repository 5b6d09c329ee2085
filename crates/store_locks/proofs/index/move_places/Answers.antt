use Rattle.std.proofs.Common.{◌<◌, get_or, length, arith}
use Rattle.std.proofs.lemmas.List.{get_or_default}
use Rattle.std.proofs.lemmas.List.Edits.{map_over_more}
use Rattle.store_locks.proofs.index.move_places.Goals as goal

pub loop-place-preserved : goal.loop-place-preserved
loop-place-preserved c =
    let places = c.loop-place.place-items in
    let i = c.loop-place.place-index in
    let x = get_or places i 0 in
    let inside : i < length places = omega arith in
    map_over_more (λ p. get_or c.args.moved.now p 0) c.args.places.now places i x c.loop-place-test.true c.loop-place.invariant (get_or_default places i 0 x inside)
