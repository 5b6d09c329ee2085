use Rattle.std.proofs.Common.{arith, ap, ◌∙◌, length}
use Rattle.std.specs.List.{remove}
use Rattle.store_table.specs.Ends.{ending_place}
use Rattle.store_table.proofs.Ends.{ending_inside, taken_from}
use Rattle.store_table.proofs.ending.take_ending.Goals as goal

pub remove-requires : goal.remove-requires
remove-requires c =
    let ends = c.args.ends.now.items in
    let here = c.place_of-place.ensures.place ∙ ap (ending_place c.args.ending) c.deref.ensures.value in
    let inside = ending_inside c.args.ending c.requires.there.0 ends c.requires.there.1 in
    let long = ap length c.deref.ensures.value in
    omega (arith, here, inside, long, c.deref.ensures.len)

pub returns-clause-items : goal.returns-clause-items
returns-clause-items c = λ rest is.
    let ends = c.args.ends.now.items in
    let here = c.place_of-place.ensures.place ∙ ap (ending_place c.args.ending) c.deref.ensures.value in
    c.remove.ensures.items ∙ ap (remove ends) here ∙ taken_from c.args.ending rest ends is
