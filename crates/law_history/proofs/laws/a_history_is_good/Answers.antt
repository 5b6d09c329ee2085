use Rattle.law_history.proofs.Samples.{good, whole, alone, ends, in_step, by_locks}
use Rattle.law_history.proofs.laws.a_history_is_good.Goals as goal

pub returns : goal.returns
returns c = record { good = good; whole = whole; one_at_a_time = alone; ends = ends; in_step = in_step; by_locks = by_locks }
