use Rattle.std.proofs.Common.{◌-◌, length}
use Rattle.store_order.proofs.starts.Starts.leads_up_to.Given as goal

abbrev pub decreases-loop-high : goal.decreases-loop-high
decreases-loop-high l = length l.self.list - l.high
