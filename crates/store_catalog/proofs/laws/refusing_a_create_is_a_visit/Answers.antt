use Rattle.std.proofs.Common.{subst, ◌∷◌, []}
use Rattle.sql_types.specs.declared.lock.Mode.TheVariants.{X}
use Rattle.spec_model.specs.Holds.{holds_after}
use Rattle.spec_model.specs.Locks.{whole}
use Rattle.spec_protocol.specs.CatalogVisits.{CreateRefused}
use Rattle.spec_protocol.specs.Cells.{CatalogCell}
use Rattle.store_catalog.proofs.Visits.{same_refused}
use Rattle.store_catalog.proofs.laws.refusing_a_create_is_a_visit.Goals as goal

pub returns : goal.returns
returns c = λ v cell d s t o at e fresh begin alone locks is seat.
    record {
      o = o;
      at = at;
      at_begin = begin;
      alone = alone;
      free = locks.free;
      refusal = e;
      is = same_refused (holds_after cell.holds o.id (whole X ∷ [])) cell at.stands.stmt e (subst (λ (x : CatalogCell). CreateRefused x at.stands.stmt e) locks.cell is);
      cell = locks.cell;
      seat = seat;
    }
