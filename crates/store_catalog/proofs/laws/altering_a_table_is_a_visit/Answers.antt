use Rattle.std.proofs.Common.{◌≡◌, ◌∙◌, ◌∷◌, [], ap, sym}
use Rattle.sql_types.specs.declared.lock.Mode.TheVariants.{X}
use Rattle.spec_model.specs.Holds.{holds_after}
use Rattle.spec_model.specs.Locks.{whole}
use Rattle.spec_protocol.specs.CatalogVisits.{alters_in, with_altered}
use Rattle.spec_protocol.specs.Cells.{CatalogCell}
use Rattle.store_catalog.proofs.Visits.{same_alters}
use Rattle.store_catalog.proofs.laws.altering_a_table_is_a_visit.Goals as goal

pub returns : goal.returns
returns c = λ v cell l d s t o at a fresh begin alone locks passes made seat.
    let stmt = at.stands.stmt in
    let same : alters_in l stmt ≡ alters_in cell stmt =
    ap (λ (x : CatalogCell). alters_in x stmt) locks.cell ∙ same_alters (holds_after cell.holds o.id (whole X ∷ [])) cell stmt in
    record {
      o = o;
      at = at;
      at_begin = begin;
      alone = alone;
      free = locks.free;
      made_is = a;
      passes = sym same ∙ passes;
      cell = made ∙ ap (λ (x : CatalogCell). with_altered o.id o.seq a x.holds x) locks.cell;
      seat = seat;
    }
