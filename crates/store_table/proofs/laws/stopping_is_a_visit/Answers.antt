use Rattle.spec_protocol.specs.Doing.{no_memory}
use Rattle.store_table.proofs.laws.stopping_is_a_visit.Goals as goal

pub returns : goal.returns
returns c = record {
  stops = λ v cell s t o named fresh at r passes stopped seat. record { o = o; named = named; fresh = fresh; at = at; passes = passes; r = r; stopped = stopped; seat = seat };
  memory = λ holds id requests. no_memory;
}
