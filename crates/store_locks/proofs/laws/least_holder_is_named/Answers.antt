use Rattle.store_locks.proofs.Holders.{named_bars, named_is_least, none_bars}
use Rattle.store_locks.proofs.laws.least_holder_is_named.Goals as goal

pub returns : goal.returns
returns c = record {
  named = λ holds tx request a is. named_bars tx request holds a is;
  least = λ holds tx request a is. named_is_least tx request holds a is;
  none = λ holds tx request is. none_bars tx request holds is;
}
