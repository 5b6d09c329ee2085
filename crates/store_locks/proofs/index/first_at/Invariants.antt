use Rattle.std.proofs.Common.{◌≡◌, ◌<◌, ◌≤◌, ◌-◌, ℕ, true, false, length, get_or}
use Rattle.store_locks.specs.Index.{item_is_before}
use Rattle.store_locks.proofs.index.first_at.Given as goal

abbrev pub invariant-loop-low : goal.invariant-loop-low
invariant-loop-low l = record {
  order : l.low ≤ l.high;
  bound : l.high ≤ length l.places;
  before : (k : ℕ) → k < l.low → item_is_before l.holds l.item (get_or l.places k 0) ≡ true;
  behind : (k : ℕ) → l.high ≤ k → k < length l.places → item_is_before l.holds l.item (get_or l.places k 0) ≡ false;
}

abbrev pub decreases-loop-low : goal.decreases-loop-low
decreases-loop-low l = l.high - l.low
