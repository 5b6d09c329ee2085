use Rattle.std.proofs.Common.{refl}
use Rattle.store_table.proofs.laws.releasing_is_a_visit.Goals as goal

pub returns : goal.returns
returns c = record {
  releases = λ cell d s t x o at made seat. record { x = x; o = o; at = at; cell = made; seat = seat };
  committed = λ n tx cell. refl;
  ended = λ n tx back cell. refl;
  none_refused = λ cell. refl;
}
