use Rattle.std.proofs.Common.{◌≡◌, ◌++◌, ◌∷◌, [], ◌∙◌, sym, ap, subst, arith, ℕ, length, bytes_eq}
use Rattle.indexmap.specs.IndexMap.{insert_all}
use Rattle.sql_types.specs.declared.table.TableDef.{TableDef}
use Rattle.spec_model.specs.Catalog.{Defs}
use Rattle.store_catalog.specs.Names.{names_at, names_from, HasNewNames}
use Rattle.store_catalog.proofs.Named.{after_push}
use Rattle.store_catalog.proofs.named_defs.NamedDefs.push.Goals as goal

pub invariant_of-self-2 : goal.invariant_of-self-2
invariant_of-self-2 c =
    let defs = c.self.inside.defs.items in
    let def = c.args.def in
    let new = subst (λ (ds : Defs). HasNewNames ds def) (sym c.self.view_is) c.requires in
    let place : c.len.result ≡ length defs = omega (arith, c.len.ensures, ap (λ (ds : Defs). length ds) c.reserve.ensures.items) in
    c.in_ok-added.ensures.entries
    ∙ (λ i. insert_all bytes_eq (c.self.invariant i) (c.in_ok-names.ensures i))
    ∙ ap (λ (d : TableDef). insert_all bytes_eq (names_from 0 defs) (insert_all bytes_eq [] (names_at c.len.result d))) c.get.ensures
    ∙ ap (λ (n : ℕ). insert_all bytes_eq (names_from 0 defs) (insert_all bytes_eq [] (names_at n def))) place
    ∙ after_push defs def new
    ∙ ap (λ (ds : Defs). names_from 0 ds) (sym (c.push_reserved.ensures.items ∙ ap (λ (ds : Defs). ds ++ def ∷ []) c.reserve.ensures.items))
