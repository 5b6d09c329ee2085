use Rattle.std.proofs.Common.{◌≡◌, ◌≤◌, ◌-◌, Bool, true, false, length}
use Rattle.std.specs.Fn.{ComputesKey}
use Rattle.std.specs.List.{AllWithin}
use Rattle.std.specs.List.Sorted.{IsPartitionedBy}
use Rattle.spec_model.specs.Rows.{EventId}
use Rattle.store_order.proofs.starts.Starts.partition_point.Given as goal

abbrev pub invariant-loop-low : goal.invariant-loop-low
invariant-loop-low g l = (l.low ≤ l.high) × (l.high ≤ length l.self.list) × goal.P-IsAlwaysCallable g l.pred
    × ((p : EventId → Bool) → ComputesKey g.P.FnMut p l.initial.pred → ComputesKey g.P.FnMut p l.pred
    × (IsPartitionedBy p l.self.list → AllWithin (λ y. p y ≡ true) l.self.list 0 l.low × AllWithin (λ y. p y ≡ false) l.self.list l.high (length l.self.list)))

abbrev pub decreases-loop-low : goal.decreases-loop-low
decreases-loop-low g l = l.high - l.low
