use Rattle.std.proofs.Common.{◌≡◌, ◌∙◌, ap, sym}
use Rattle.spec_model.specs.Create.{index_check}
use Rattle.spec_protocol.specs.CatalogVisits.{with_new_index}
use Rattle.spec_protocol.specs.Cells.{CatalogCell}
use Rattle.store_catalog.proofs.laws.creating_an_index_is_a_visit.Goals as goal

pub returns : goal.returns
returns c = λ v cell l d s t o at create def index fresh begin alone creates locks passes done_ seat.
    let same : index_check l.defs create ≡ index_check cell.defs create = ap (λ (x : CatalogCell). index_check x.defs create) locks.cell in
    record {
      o = o;
      at = at;
      at_begin = begin;
      alone = alone;
      create = create;
      creates = creates;
      free = locks.free;
      def = def;
      index = index;
      passes = sym same ∙ passes;
      cell = done_ ∙ ap (λ (x : CatalogCell). with_new_index o.id o.seq def index x.holds x) locks.cell;
      seat = seat;
    }
