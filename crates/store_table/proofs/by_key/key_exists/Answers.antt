use Rattle.std.proofs.Common.{◌∙◌, sym}
use Rattle.spec_model.specs.Keys.{key_at}
use Rattle.store_table.proofs.OfKey.{row_there, row_nowhere}
use Rattle.store_table.proofs.Stretches.{start_there, start_nowhere}
use Rattle.store_table.proofs.by_key.key_exists.Goals as goal

pub returns-in-Some : goal.returns-in-Some
returns-in-Some c =
    let places = c.args.places.now in
    let order = c.args.order.now.list in
    let there = start_there order c.count_below_row-place.result _ (sym c.in-Some.ensures) in
    c.has_key_of.ensures
    ∙ row_there places (key_at places c.args.row.now) c.args.versions.now order c.requires.order c.requires.rising c.count_below_row-place.result _
    c.count_below_row-place.ensures.place there.0 there.1

pub returns-in-None : goal.returns-in-None
returns-in-None c =
    let places = c.args.places.now in
    let order = c.args.order.now.list in
    row_nowhere places (key_at places c.args.row.now) c.args.versions.now order c.requires.order c.count_below_row-place.result c.count_below_row-place.ensures.place
    (start_nowhere order c.count_below_row-place.result (sym c.in-None.ensures))
