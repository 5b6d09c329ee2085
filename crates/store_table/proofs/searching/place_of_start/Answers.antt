use Rattle.std.proofs.Common.{arith, ap, sym, ◌∙◌}
use Rattle.std.specs.Ordering.{is_lt}
use Rattle.sql_types.specs.declared.version.Version.{Version}
use Rattle.spec_model.specs.Rows.{event_cmp}
use Rattle.store_table.proofs.Between.{fails_above, own_place, passes_below, place_within}
use Rattle.store_table.proofs.searching.place_of_start.Goals as goal

pub place_above-requires-clause-from : goal.place_above-requires-clause-from
place_above-requires-clause-from c =
    let at = c.args.at in
    let first = passes_below at c.args.versions.now c.requires c.guess_place-guess.result c.index-versions-guess.result c.guess_place-guess.ensures
    (ap (λ (v : Version). is_lt (event_cmp v.start at)) (sym c.index-versions-guess.is) ∙ ap is_lt (sym c.in-Less.ensures)) in
    omega (arith, first)

pub place_below-requires-clause-from : goal.place_below-requires-clause-from
place_below-requires-clause-from c =
    let at = c.args.at in
    fails_above at c.args.versions.now c.guess_place-guess.result c.index-versions-guess.result
    (ap (λ (v : Version). is_lt (event_cmp v.start at)) (sym c.index-versions-guess.is) ∙ ap is_lt (sym c.in-Greater.ensures))

pub returns-in-Less-clause-bound : goal.returns-in-Less-clause-bound
returns-in-Less-clause-bound c = let within = place_within c.args.at c.args.versions.now in omega (arith, within, c.place_above.ensures)

pub returns-in-Equal-clause-value : goal.returns-in-Equal-clause-value
returns-in-Equal-clause-value c =
    let at = c.args.at in
    own_place at c.args.versions.now c.requires c.guess_place-guess.result c.index-versions-guess.result c.guess_place-guess.ensures
    (ap (λ (v : Version). event_cmp v.start at) (sym c.index-versions-guess.is) ∙ sym c.in-Equal.ensures)

pub returns-in-Greater-clause-bound : goal.returns-in-Greater-clause-bound
returns-in-Greater-clause-bound c = let within = place_within c.args.at c.args.versions.now in omega (arith, within, c.place_below.ensures)
