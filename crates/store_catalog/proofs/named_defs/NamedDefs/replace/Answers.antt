use Rattle.std.proofs.Common.{◌≡◌, ◌∙◌, sym, ap, subst, arith, length-set, get_or, slice_set}
use Rattle.std.specs.Prelude.{IfNone, IfSome}
use Rattle.sql_types.specs.declared.table.TableDef.{TableDef}
use Rattle.spec_model.specs.Catalog.{Defs}
use Rattle.store_catalog.specs.Names.{names_from, HaveSameNames, MayReplace}
use Rattle.store_catalog.proofs.Named.{names_back, now_named, same_back}
use Rattle.store_catalog.proofs.named_defs.NamedDefs.replace.Goals as goal

pub invariant_of-self : goal.invariant_of-self
invariant_of-self c =
    let defs = c.self.inside.defs.items in
    let new = c.args.new in
    let may = subst (λ (ds : Defs). MayReplace ds new) (sym c.self.view_is) c.requires in
    ap (λ names. names.entries) c.replace_names-names.ensures.after
    ∙ now_named defs new.place new.def c.self.inside.names c.self.invariant may.within new.names may.same_names may.new_names
    ∙ ap (λ (d : TableDef). names_from 0 (slice_set defs new.place d)) (sym c.replace-def.ensures.after)

pub returns-clause-back : goal.returns-clause-back
returns-clause-back c =
    let defs = c.self.inside.defs.items in
    let new = c.args.new in
    let old = c.replace-def.result in
    let names = c.self.inside.names in
    let may = subst (λ (ds : Defs). MayReplace ds new) (sym c.self.view_is) c.requires in
    let there : old ≡ get_or defs new.place old =
    c.replace-def.ensures.value ∙ c.index_mut.ensures.value ∙ ap (λ (d : TableDef). get_or defs new.place d) (sym c.replace-def.ensures.value) in
    let given = sym c.replace_names-names.ensures.before in
    subst (λ (d : TableDef). MayReplace (slice_set defs new.place d) (record { place = new.place; def = old; names = c.replace_names-names.result })) (sym c.replace-def.ensures.after)
    (record {
      within = omega (arith, may.within, length-set defs new.place new.def);
      same_names = subst (λ o. IfNone o ((d : TableDef) → HaveSameNames (get_or (slice_set defs new.place new.def) new.place d) old)) given
          (same_back defs new.place new.def names c.self.invariant may.within old there new.names may.same_names);
      new_names = subst (λ o. IfSome o (λ n. n.entries ≡ names_from 0 (slice_set (slice_set defs new.place new.def) new.place old))) given
          (names_back defs new.place new.def names c.self.invariant may.within old there new.names);
    })
