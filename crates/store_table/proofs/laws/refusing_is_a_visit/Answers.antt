use Rattle.store_table.proofs.laws.refusing_is_a_visit.Goals as goal

pub returns : goal.returns
returns c = λ v cell d s t o named fresh at row e is passes refuses locks seat.
    record {
      o = o;
      named = named;
      fresh = fresh;
      at = at;
      row = row;
      is = is;
      passes = passes;
      free = locks.free;
      refusal = e;
      refuses = refuses;
      cell = locks.cell;
      seat = seat;
    }
