use Rattle.std.proofs.Common.{◌≡◌, ◌∙◌, ap, sym}
use Rattle.spec_model.specs.Create.{create_check}
use Rattle.spec_protocol.specs.CatalogVisits.{with_table}
use Rattle.spec_protocol.specs.Cells.{CatalogCell}
use Rattle.store_catalog.proofs.laws.creating_a_table_is_a_visit.Goals as goal

pub returns : goal.returns
returns c = λ v cell l d s t o at create def fresh begin alone creates locks passes made seat.
    let same : create_check l.defs create ≡ create_check cell.defs create = ap (λ (x : CatalogCell). create_check x.defs create) locks.cell in
    record {
      o = o;
      at = at;
      at_begin = begin;
      alone = alone;
      create = create;
      creates = creates;
      free = locks.free;
      def = def;
      passes = sym same ∙ passes;
      cell = made ∙ ap (λ (x : CatalogCell). with_table o.id o.seq def x.holds x) locks.cell;
      seat = seat;
    }
