use Rattle.std.proofs.Common.{rules}
use Rattle.audit_extract.proofs.ImageLeaves.{found_leaves}
use Rattle.audit_extract.proofs.leaves.leaves_in.Goals as goal

pub returns : goal.returns
returns c =
    found_leaves c.args.image.now c.in_ok-all.all.items c.args.tx c.args.table c.in_ok-own.own.items c.requires c.in_ok-all.ensures.sorted c.in_ok-all.ensures.stable (search rules)
