use Rattle.audit_paths.proofs.Equations.{made_front, made_back}
use Rattle.audit_paths.proofs.path.+audit_path.Goals as goal

pub returns-in_ok-push : goal.returns-in_ok-push
returns-in_ok-push g t c =
    made_front (g.H.Hash32.digest c.args.h) c.args.leaves.now c.halves.result.0.now c.halves.result.1.now c.in_ok-path.path _ c.tree_root.result c.args.place
    c.if-leaves-lt2.false c.halves.ensures.front c.halves.ensures.back c.if-place-front.true c.in_ok-path.ensures c.tree_root.ensures c.in_ok-push.ensures.ok

pub returns-in_ok-push-2 : goal.returns-in_ok-push-2
returns-in_ok-push-2 g t c =
    made_back (g.H.Hash32.digest c.args.h) c.args.leaves.now c.halves.result.0.now c.halves.result.1.now c.in_ok-path-2.path _ c.tree_root-else-place-front.result c.args.place
    c.if-leaves-lt2.false c.halves.ensures.front c.halves.ensures.back c.if-place-front.false c.in_ok-path-2.ensures c.tree_root-else-place-front.ensures c.in_ok-push-2.ensures.ok
