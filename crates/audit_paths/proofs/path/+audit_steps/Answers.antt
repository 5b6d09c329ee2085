use Rattle.std.proofs.Common.{◌∙◌, sym}
use Rattle.audit_paths.proofs.Stepping.{steps_few, steps_made_front, steps_made_back}
use Rattle.audit_paths.proofs.path.+audit_steps.Goals as goal

pub returns-then-leaves-lt2 : goal.returns-then-leaves-lt2
returns-then-leaves-lt2 g t c = c.new.ensures ∙ sym (steps_few (g.H.Hash32.digest c.args.h) c.args.place c.args.leaves.now c.if-leaves-lt2.true)

pub returns-in_ok-push : goal.returns-in_ok-push
returns-in_ok-push g t c =
    steps_made_front (g.H.Hash32.digest c.args.h) c.args.leaves.now c.halves.result.0.now c.halves.result.1.now c.in_ok-steps.steps _ c.tree_root.result c.args.place
    c.if-leaves-lt2.false c.halves.ensures.front c.halves.ensures.back c.if-place-front.true c.in_ok-steps.ensures c.tree_root.ensures c.in_ok-push.ensures.ok

pub returns-in_ok-push-2 : goal.returns-in_ok-push-2
returns-in_ok-push-2 g t c =
    steps_made_back (g.H.Hash32.digest c.args.h) c.args.leaves.now c.halves.result.0.now c.halves.result.1.now c.in_ok-steps-2.steps _ c.tree_root-else-place-front.result c.args.place
    c.if-leaves-lt2.false c.halves.ensures.front c.halves.ensures.back c.if-place-front.false c.in_ok-steps-2.ensures c.tree_root-else-place-front.ensures c.in_ok-push-2.ensures.ok
