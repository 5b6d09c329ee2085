use Rattle.std.proofs.Common.{◌∙◌}
use Rattle.store_table.proofs.Moves.{taken_there}
use Rattle.store_table.proofs.index.take_start.Goals as goal

pub remove-requires : goal.remove-requires
remove-requires c =
    let r = taken_there c.args.index.now.ordinals c.args.key.now c.args.versions.now c.args.place c.place_of_live-found.result c.args.index.now.order.list
    c.requires.rising c.requires.within c.requires.is_live c.requires.order c.place_of_live-found.ensures in
    record { within = r.0 }

pub returns-clause-order : goal.returns-clause-order
returns-clause-order c =
    c.remove.ensures.list
    ∙ (taken_there c.args.index.now.ordinals c.args.key.now c.args.versions.now c.args.place c.place_of_live-found.result c.args.index.now.order.list
    c.requires.rising c.requires.within c.requires.is_live c.requires.order c.place_of_live-found.ensures).1
