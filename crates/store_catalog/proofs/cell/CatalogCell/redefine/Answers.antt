use Rattle.std.proofs.Common.{◌≡◌, ◌∙◌, refl, sym, ap, subst, Option}
use Rattle.std.specs.Prelude.{Some}
use Rattle.spec_model.specs.Catalog.{Defs}
use Rattle.spec_protocol.specs.Cells.{CatalogCell}
use Rattle.store_catalog.specs.Definitions.{creator_seen, redefined, AreFormed, MayTakeBack}
use Rattle.store_catalog.specs.declared.definitions.Creator.{Creator}
use Rattle.store_catalog.specs.WorkedOut.{IsPlaced}
use Rattle.store_catalog.proofs.Creates.{cell_of, same_cell}
use Rattle.store_catalog.proofs.DefsKept.{before_instead, defs_instead, formed_instead}
use Rattle.store_catalog.proofs.cell.CatalogCell.redefine.Goals as goal

pub replace-requires : goal.replace-requires
replace-requires c = (subst (λ (x : CatalogCell). IsPlaced x.defs c.args.placed) (sym c.self.view_is) c.requires).may

pub invariant_of-self : goal.invariant_of-self
invariant_of-self c =
    let placed = subst (λ (x : CatalogCell). IsPlaced x.defs c.args.placed) (sym c.self.view_is) c.requires in
    subst (λ (x : Option Creator). AreFormed c.replace.new.self × MayTakeBack c.replace.new.self x) (sym c.put_creator.ensures)
    (formed_instead c.self.inside.defs c.replace.new.self c.args.placed c.replace.result placed
    c.replace.ensures.after c.replace.ensures.place c.replace.ensures.before c.self.invariant.0 c.replace.ensures.back)

pub returns : goal.returns
returns c =
    let s = c.self.inside in
    let tx = c.args.tx in
    let now = c.replace.new.self in
    let placed = subst (λ (x : CatalogCell). IsPlaced x.defs c.args.placed) (sym c.self.view_is) c.requires in
    let cell : CatalogCell = cell_of s.defs (creator_seen s.defs s.creator) s.tables.stored.versions s.columns.stored.versions s.locks in
    let creator = creator_seen now c.put_creator.new.place in
    let after : CatalogCell = cell_of now creator s.tables.stored.versions s.columns.stored.versions s.locks in
    let made_by = λ (ds : Defs). Some (record { tx = tx; before = ds }) in
    subst (λ (x : CatalogCell). after ≡ redefined tx c.args.placed.def x) c.self.view_is
    (same_cell after (redefined tx c.args.placed.def cell)
    (defs_instead s.defs now c.args.placed c.replace.result placed c.replace.ensures.after c.self.invariant.0)
    (ap (creator_seen now) c.put_creator.ensures ∙ ap made_by (before_instead s.defs now c.args.placed c.replace.result placed c.replace.ensures.after c.replace.ensures.place c.replace.ensures.before))
    refl refl refl)
