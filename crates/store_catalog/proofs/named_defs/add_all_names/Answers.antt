use Rattle.std.proofs.Common.{◌≤◌, ◌∙◌, sym, ap, arith, length, length-set, slice_set, bytes_eq}
use Rattle.std.proofs.lemmas.List.{drop_all}
use Rattle.indexmap.specs.IndexMap.{insert_all}
use Rattle.spec_model.specs.Catalog.{Defs}
use Rattle.store_catalog.specs.Names.{names_from}
use Rattle.store_catalog.proofs.Named.{add_step}
use Rattle.store_catalog.proofs.named_defs.add_all_names.Goals as goal

pub loop-there-preserved : goal.loop-there-preserved
loop-there-preserved c =
    let after : Defs = slice_set c.args.defs.now c.args.place c.args.def.now in
    add_step c.loop-there.names.entries c.add_names.new.names.entries after c.loop-there.there c.def_there.result.now c.in_ok-add_names.ensures c.def_there.ensures
    (omega (arith, length-set c.args.defs.now c.args.place c.args.def.now, c.loop-there-test.true))
    ∙ c.loop-there.invariant

pub returns : goal.returns
returns c =
    let after : Defs = slice_set c.args.defs.now c.args.place c.args.def.now in
    let there = c.loop-there.there in
    let all : length after ≤ there = omega (arith, length-set c.args.defs.now c.args.place c.args.def.now, c.loop-there-test.false) in
    ap (λ (ds : Defs). insert_all bytes_eq c.loop-there.names.entries (names_from there ds)) (sym (drop_all there after all)) ∙ c.loop-there.invariant
