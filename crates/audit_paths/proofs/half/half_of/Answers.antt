use Rattle.audit_paths.proofs.Equations.{half_front, half_back}
use Rattle.audit_paths.proofs.half.half_of.Goals as goal

pub returns-then-place-front-clause-sides : goal.returns-then-place-front-clause-sides
returns-then-place-front-clause-sides c = half_front c.args.place c.args.count c.front_of-front.result c.requires.more c.front_of-front.ensures.value c.if-place-front.true

pub returns-else-place-front-clause-sides : goal.returns-else-place-front-clause-sides
returns-else-place-front-clause-sides c = half_back c.args.place c.args.count c.front_of-front.result c.requires.more c.front_of-front.ensures.value c.if-place-front.false
