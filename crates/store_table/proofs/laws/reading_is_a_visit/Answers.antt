use Rattle.std.proofs.Common.{refl, ◌∙◌}
use Rattle.store_table.proofs.laws.reading_is_a_visit.Goals as goal

pub returns : goal.returns
returns c = record {
  shown = λ v cell d s t o named fresh at q rows is passes read seat.
      record {
        o = o;
        named = named;
        fresh = fresh;
        at = at;
        q = q;
        is = is;
        passes = passes;
        free = read.locks.free;
        cell = read.locks.cell;
        seat = seat ∙ rw read.shown refl;
      };
  refused = λ v cell d s t o named fresh at q e is passes refuses locks seat.
      record {
        o = o;
        named = named;
        fresh = fresh;
        at = at;
        q = q;
        is = is;
        passes = passes;
        free = locks.free;
        cell = locks.cell;
        seat = seat ∙ rw refuses refl;
      };
}
