use Rattle.std.proofs.Common.{refl}
use Rattle.store_ledger.proofs.Closings.{first_closed}
use Rattle.store_ledger.proofs.laws.closings_are_visits_one_by_one.Goals as goal

pub returns : goal.returns
returns c = record {
  first = λ v cell some. record { some = some; all = refl; cell = refl };
  others = λ v n cell some. first_closed v.hash n cell some;
}
