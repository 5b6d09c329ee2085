use Rattle.test_board.proofs.Counted.{two_counts}
use Rattle.test_board.proofs.world.totals_of.Goals as goal

pub returns : goal.returns
returns c = two_counts c.args.counters.now _ _ c.requires
