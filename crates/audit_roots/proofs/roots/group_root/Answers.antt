use Rattle.audit_roots.proofs.Hashed.{hashes_of_leaves}
use Rattle.audit_roots.proofs.roots.group_root.Goals as goal

pub returns : goal.returns
returns g c = c.in_ok-root.ensures _ (hashes_of_leaves (g.H.Hash32.digest c.args.hasher) c.args.marks.now c.args.hashes.now c.requires)
