use Rattle.std.proofs.Common.{◌≡◌, refl, ap, subst}
use Rattle.spec_protocol.specs.Cells.{CatalogCell}
use Rattle.store_table.specs.Stored.{Stored}
use Rattle.store_catalog.specs.Calls.{undone}
use Rattle.store_catalog.specs.Definitions.{creator_seen}
use Rattle.store_catalog.proofs.Creates.{same_cell}
use Rattle.store_catalog.proofs.cell.CatalogCell.undo.Goals as goal

pub invariant_of-self : goal.invariant_of-self
invariant_of-self c = (c.undo_change.ensures.formed c.self.invariant.0, c.undo_change.ensures.back)

pub returns : goal.returns
returns c =
    let s = c.self.inside in
    let ds = c.undo_change.new.defs in
    let cell : CatalogCell = record { defs = s.defs; creator = creator_seen s.defs s.creator; tables = s.tables.stored.versions; columns = s.columns.stored.versions; holds = s.locks } in
    let after : CatalogCell = record { defs = ds; creator = creator_seen ds c.undo_change.new.creator; tables = c.undo.new.self.stored.versions; columns = c.undo-2.new.self.stored.versions; holds = s.locks } in
    subst (λ (x : CatalogCell). after ≡ undone c.args.tx x) c.self.view_is
    (same_cell after (undone c.args.tx cell) c.undo_change.ensures.defs c.undo_change.ensures.creator
    (ap (λ (t : Stored). t.versions) c.undo.ensures.stored) (ap (λ (t : Stored). t.versions) c.undo-2.ensures.stored) refl)
