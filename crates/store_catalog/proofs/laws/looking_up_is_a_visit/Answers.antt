use Rattle.std.proofs.Common.{◌≡◌, ◌∙◌, ap, refl}
use Rattle.spec_protocol.specs.Cells.{CatalogCell}
use Rattle.store_catalog.proofs.laws.looking_up_is_a_visit.Goals as goal

pub returns : goal.returns
returns c = λ v cell d s t o at name fresh begin shares named locks seat.
    let defs : d.defs ≡ cell.defs = ap (λ (x : CatalogCell). x.defs) locks.cell in
    record {
      o = o;
      at = at;
      at_begin = begin;
      shares = shares;
      name = name;
      named = named;
      free = locks.free;
      cell = locks.cell;
      seat = seat ∙ rw (defs, locks.fresh) refl;
    }
