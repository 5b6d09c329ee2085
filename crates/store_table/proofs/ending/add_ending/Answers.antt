use Rattle.std.proofs.Common.{arith, ap, ◌∙◌, refl, length}
use Rattle.std.specs.List.{insert}
use Rattle.store_table.specs.Ends.{ending_place}
use Rattle.store_table.proofs.Done.{if_ok}
use Rattle.store_table.proofs.Ends.{put_among}
use Rattle.store_table.proofs.ending.add_ending.Goals as goal

pub returns-clause-items : goal.returns-clause-items
returns-clause-items c =
    let ends = c.args.ends.now.items in
    let put = put_among c.args.ending ends ends refl in
    let here = c.place_of-place.ensures.place ∙ ap (ending_place c.args.ending) c.deref.ensures.value in
    let long = ap length c.deref.ensures.value in
    c.insert.ensures.items ∙ if_ok c.insert.result _ _ (c.insert.ensures.succeeds (omega (arith, c.requires.room, long, c.deref.ensures.len))) ∙ ap (λ n. insert ends n c.args.ending) here ∙ put
