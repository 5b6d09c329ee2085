use Rattle.std.proofs.Common.{◌≡◌, ◌∙◌, ap, sym, refl}
use Rattle.spec_model.specs.Query.{query_check}
use Rattle.spec_protocol.specs.Cells.{CatalogCell, Catalog, versions_in}
use Rattle.store_catalog.proofs.laws.reading_is_a_visit.Goals as goal

pub returns : goal.returns
returns c = λ v cell d s t o at q def fresh begin selects passes locks seat.
    let same : query_check d.defs q ≡ query_check cell.defs q = ap (λ (x : CatalogCell). query_check x.defs q) locks.cell in
    let versions : versions_in def.id (Catalog d) ≡ versions_in def.id (Catalog cell) = ap (λ (x : CatalogCell). versions_in def.id (Catalog x)) locks.cell in
    record {
      o = o;
      at = at;
      at_begin = begin;
      q = q;
      selects = selects;
      def = def;
      passes = sym same ∙ passes;
      free = locks.free;
      cell = locks.cell;
      seat = seat ∙ rw versions refl;
    }
