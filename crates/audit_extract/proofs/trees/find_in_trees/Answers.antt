use Rattle.std.proofs.Common.{refl, true, false}
use Rattle.audit_extract.proofs.Halves.{halves, go_back, go_front, front_length, back_length}
use Rattle.audit_extract.proofs.Nodes.{at_node, further, whole}
use Rattle.audit_extract.proofs.trees.find_in_trees.Goals as goal

pub halves-init : goal.halves-init
halves-init g c = (
  record { few_a = c.requires.few_a; few_b = c.requires.few_b; differ = c.requires.differ; same = c.requires.same },
  whole c.args.a.now c.args.b.now,
)

pub returns-in-Collision-clause-node : goal.returns-in-Collision-clause-node
returns-in-Collision-clause-node g c =
    at_node (g.H.Hash32.digest c.args.h) c.args.a.now c.args.b.now c.halves.a.now c.halves.b.now _ c.halves.invariant.1
    (rw c.in-Collision.is at c.in_ok-collision.ensures.strings)

pub halves-preserved-then-are_same : goal.halves-preserved-then-are_same
halves-preserved-then-are_same g c =
    let d = g.H.Hash32.digest c.args.h in
    let met = g.met.H.Hash32 g.world.𝓛 g.world.𝓜 g.world.𝓡 ((λ s x. x), (λ x. x), (λ x. x), λ x. x) in
    let e = rw c.in-Same.is at c.in_ok-collision.ensures.finds in
    let two = halves d (met.sized c.args.h) c.halves.a.now c.halves.b.now c.halves.invariant.0.differ e in (
      go_back d c.halves.a.now c.halves.b.now _ _ _ _ c.halves.invariant.0 two c.tree_halves.ensures.front c.tree_halves-in-Same.ensures.front c.tree_halves.ensures.back c.tree_halves-in-Same.ensures.back (c.if-are_same.ensures.same refl),
      further c.args.a.now c.args.b.now c.halves.a.now c.halves.b.now _ _ false c.halves.invariant.1 c.tree_halves.ensures.back c.tree_halves-in-Same.ensures.back,
    )

pub halves-preserved : goal.halves-preserved
halves-preserved g c =
    let d = g.H.Hash32.digest c.args.h in
    let met = g.met.H.Hash32 g.world.𝓛 g.world.𝓜 g.world.𝓡 ((λ s x. x), (λ x. x), (λ x. x), λ x. x) in
    let e = rw c.in-Same.is at c.in_ok-collision.ensures.finds in
    let two = halves d (met.sized c.args.h) c.halves.a.now c.halves.b.now c.halves.invariant.0.differ e in (
      go_front d c.halves.a.now c.halves.b.now _ _ c.halves.invariant.0 two c.tree_halves.ensures.front c.tree_halves-in-Same.ensures.front (c.if-are_same.ensures.differ refl),
      further c.args.a.now c.args.b.now c.halves.a.now c.halves.b.now _ _ true c.halves.invariant.1 c.tree_halves.ensures.front c.tree_halves-in-Same.ensures.front,
    )

pub halves-smaller-then-are_same : goal.halves-smaller-then-are_same
halves-smaller-then-are_same g c =
    let d = g.H.Hash32.digest c.args.h in
    let met = g.met.H.Hash32 g.world.𝓛 g.world.𝓜 g.world.𝓡 ((λ s x. x), (λ x. x), (λ x. x), λ x. x) in
    let e = rw c.in-Same.is at c.in_ok-collision.ensures.finds in
    let two = halves d (met.sized c.args.h) c.halves.a.now c.halves.b.now c.halves.invariant.0.differ e in
    rw c.tree_halves.ensures.back (back_length c.halves.a.now two.more_a)

pub halves-smaller : goal.halves-smaller
halves-smaller g c =
    let d = g.H.Hash32.digest c.args.h in
    let met = g.met.H.Hash32 g.world.𝓛 g.world.𝓜 g.world.𝓡 ((λ s x. x), (λ x. x), (λ x. x), λ x. x) in
    let e = rw c.in-Same.is at c.in_ok-collision.ensures.finds in
    let two = halves d (met.sized c.args.h) c.halves.a.now c.halves.b.now c.halves.invariant.0.differ e in
    rw c.tree_halves.ensures.front (front_length c.halves.a.now two.more_a)
