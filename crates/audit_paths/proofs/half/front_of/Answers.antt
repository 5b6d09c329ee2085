use Rattle.audit_paths.proofs.Equations.{split_below}
use Rattle.audit_paths.proofs.half.front_of.Goals as goal

pub returns-clause-some : goal.returns-clause-some
returns-clause-some c = (split_below c.args.count c.split_of.result c.requires.more c.split_of.ensures).0

pub returns-clause-below : goal.returns-clause-below
returns-clause-below c = (split_below c.args.count c.split_of.result c.requires.more c.split_of.ensures).1
