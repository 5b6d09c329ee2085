use Rattle.store_table.proofs.laws.changing_is_a_visit.Goals as goal

pub returns : goal.returns
returns c = λ v cell d s t o named fresh at row changes count is passes free changed made seat.
    record {
      o = o;
      named = named;
      fresh = fresh;
      at = at;
      row = row;
      is = is;
      passes = passes;
      free = free;
      changes = changes;
      count = count;
      changed = changed;
      cell = made;
      seat = seat;
    }
