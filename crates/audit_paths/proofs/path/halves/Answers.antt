use Rattle.audit_paths.proofs.Equations.{front_shorter, back_shorter}
use Rattle.audit_paths.proofs.path.halves.Goals as goal

pub returns-clause-front_shorter : goal.returns-clause-front_shorter
returns-clause-front_shorter c = front_shorter c.args.leaves.now c.tree_halves.result.0.now c.requires.more c.tree_halves.ensures.front

pub returns-clause-back_shorter : goal.returns-clause-back_shorter
returns-clause-back_shorter c = back_shorter c.args.leaves.now c.tree_halves.result.1.now c.requires.more c.tree_halves.ensures.back
