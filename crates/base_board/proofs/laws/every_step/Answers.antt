use Rattle.base_board.proofs.EachStep.{takes_on, misses_on, gives_on, splits_on, joins_on}
use Rattle.base_board.proofs.laws.every_step.Goals as goal

pub returns-clause-take_won : goal.returns-clause-take_won
returns-clause-take_won g c = takes_on g.W.World.stand g.W.World.nobody

pub returns-clause-take_missed : goal.returns-clause-take_missed
returns-clause-take_missed g c = misses_on g.W.World.stand g.W.World.nobody

pub returns-clause-give : goal.returns-clause-give
returns-clause-give g c = λ parts. gives_on g.W.World.stand g.W.World.nobody parts g.W.World.may g.W.World.visits

pub returns-clause-split : goal.returns-clause-split
returns-clause-split g c = λ parts. splits_on g.W.World.stand g.W.World.nobody parts g.W.World.kept g.W.World.split g.W.World.splits

pub returns-clause-join : goal.returns-clause-join
returns-clause-join g c = λ parts. joins_on g.W.World.stand g.W.World.nobody parts g.W.World.may_end g.W.World.joined g.W.World.joins
