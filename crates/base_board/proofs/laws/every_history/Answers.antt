use Rattle.base_board.proofs.Leading.{leads_on}
use Rattle.base_board.proofs.laws.every_history.Goals as goal

pub returns : goal.returns
returns g c = let w = g.W.World in leads_on w.stand w.may w.kept w.split w.may_end w.joined w.nobody w.visits w.splits w.joins
