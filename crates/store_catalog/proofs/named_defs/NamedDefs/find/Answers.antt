use Rattle.std.proofs.Common.{◌≡◌, ◌∙◌, sym, ap, subst, arith, ℕ, Some, None, get_or, bytes_eq}
use Rattle.std.specs.Map.{lookup}
use Rattle.sql_types.specs.declared.table.TableDef.{TableDef}
use Rattle.spec_model.specs.Catalog.{Defs, find_part}
use Rattle.store_catalog.specs.Names.{names_from}
use Rattle.store_catalog.proofs.Named.{leads, leads_nowhere}
use Rattle.store_catalog.proofs.named_defs.NamedDefs.find.Goals as goal

pub returns-in_err-named : goal.returns-in_err-named
returns-in_err-named c =
    let name = c.args.name.now in
    let defs = c.self.inside.defs.items in
    let none : lookup (bytes_eq name) (names_from 0 defs) ≡ None = ap (lookup (bytes_eq name)) (sym c.self.invariant) ∙ sym c.in_err-named.ensures.value in
    let nowhere : find_part c.args.self.now name ≡ None = subst (λ (ds : Defs). find_part ds name ≡ None) c.self.view_is (leads_nowhere 0 defs name none) in
    rw c.from_residual.ensures (sym nowhere)

pub index-requires : goal.index-requires
index-requires c =
    let name = c.args.name.now in
    let defs = c.self.inside.defs.items in
    let to = c.in_ok-named.named.now in
    let some : lookup (bytes_eq name) (names_from 0 defs) ≡ Some to = ap (lookup (bytes_eq name)) (sym c.self.invariant) ∙ sym c.in_ok-named.ensures.value in
    let l = leads 0 defs name to some in
    omega (arith, l.place, l.within)

pub returns : goal.returns
returns c =
    let name = c.args.name.now in
    let defs = c.self.inside.defs.items in
    let to = c.in_ok-named.named.now in
    let def = c.index.result.now in
    let some : lookup (bytes_eq name) (names_from 0 defs) ≡ Some to = ap (lookup (bytes_eq name)) (sym c.self.invariant) ∙ sym c.in_ok-named.ensures.value in
    let l = leads 0 defs name to some in
    let place : to.place ≡ l.index = omega (arith, l.place) in
    ap (λ (d : TableDef). Some (d, to.part)) c.index.ensures
    ∙ ap (λ (n : ℕ). Some (get_or defs n def, to.part)) place
    ∙ sym (l.found def)
    ∙ ap (λ (ds : Defs). find_part ds name) c.self.view_is
