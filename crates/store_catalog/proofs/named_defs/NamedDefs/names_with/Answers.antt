use Rattle.std.proofs.Common.{◌≡◌, [], ◌∙◌, sym, ap, subst, slice_set, bytes_eq}
use Rattle.indexmap.specs.IndexMap.{insert_all}
use Rattle.spec_model.specs.Catalog.{Defs}
use Rattle.store_catalog.specs.Names.{names_from, HasNewNames}
use Rattle.store_catalog.proofs.Named.{after_rename, all_once}
use Rattle.store_catalog.proofs.named_defs.NamedDefs.names_with.Goals as goal

pub returns : goal.returns
returns c =
    let defs = c.self.inside.defs.items in
    let new = subst (λ (ds : Defs). HasNewNames ds c.args.def.now) (sym c.self.view_is) c.requires in
    let once = all_once defs c.self.inside.names.entries c.self.invariant c.len.ensures.unique in
    let fresh : c.in_ok-names.names.entries ≡ [] = c.in_ok-names.ensures.empty in
    c.in_ok-add_all_names.ensures
    ∙ (λ i. insert_all bytes_eq (fresh i) (names_from 0 (slice_set (c.deref.ensures.value i) c.args.place c.args.def.now)))
    ∙ after_rename defs c.args.place c.args.def.now once new
    ∙ ap (λ (ds : Defs). names_from 0 (slice_set ds c.args.place c.args.def.now)) c.self.view_is
