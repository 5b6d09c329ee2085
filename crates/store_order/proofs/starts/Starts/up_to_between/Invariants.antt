use Rattle.std.proofs.Common.{◌-◌}
use Rattle.store_order.proofs.starts.Starts.up_to_between.Given as goal

abbrev pub decreases-loop-low : goal.decreases-loop-low
decreases-loop-low l = l.high - l.low
