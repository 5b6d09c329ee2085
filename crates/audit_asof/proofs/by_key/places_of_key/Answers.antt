use Rattle.audit_asof.proofs.KeyOrder.{in_turn, places_of_key}
use Rattle.audit_asof.proofs.by_key.places_of_key.Goals as goal

pub slice_bounds-result-count : goal.slice_bounds-result-count
slice_bounds-result-count c =
    in_turn c.args.key.now c.args.versions.now c.args.order.now c.requires c.args.wanted.now c.count_below-first.result c.count_up_to-behind.result
    c.count_below-first.ensures.count c.count_up_to-behind.ensures.count

pub slice_bounds-result-start : goal.slice_bounds-result-start
slice_bounds-result-start c =
    in_turn c.args.key.now c.args.versions.now c.args.order.now c.requires c.args.wanted.now c.count_below-first.result c.count_up_to-behind.result
    c.count_below-first.ensures.count c.count_up_to-behind.ensures.count

pub returns : goal.returns
returns c =
    places_of_key c.args.key.now c.args.versions.now c.args.order.now c.requires c.args.wanted.now c.count_below-first.result c.count_up_to-behind.result
    c.count_below-first.ensures.count c.count_up_to-behind.ensures.count
