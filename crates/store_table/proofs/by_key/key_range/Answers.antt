use Rattle.store_table.proofs.OfKey.{starts_from}
use Rattle.store_table.proofs.by_key.key_range.Goals as goal

pub returns : goal.returns
returns c =
    starts_from c.args.places.now c.args.key.now c.args.versions.now c.args.order.now.list c.requires.order c.count_below-first.result c.count_up_to-behind.result
    c.count_below-first.ensures.place c.count_up_to-behind.ensures.place
