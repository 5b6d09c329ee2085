use Rattle.std.proofs.Common.{◌≡◌, ℕ, List, ◌+◌, ◌-◌, ◌++◌, take, drop, arith, ap, ◌∙◌}
use Rattle.base_merkle.proofs.Levels.{eight_more, two_more}
use Rattle.base_merkle.proofs.level.level_above.Goals as goal

pub eights-preserved : goal.eights-preserved
eights-preserved g c =
    let h = g.H.Hash32.digest c.args.hasher in
    let above = c.eights.above.items in
    let rest = drop c.eights.done c.args.nodes.now in
    let all : c.eights.done + 8 - c.eights.done ≡ 8 = omega arith in
    let made = c.in_ok-extend_from_slice.ensures.items ∙ ap (λ (l : List (List ℕ)). above ++ l) c.above_eight.ensures in (
      omega arith,
      eight_more h c.args.nodes.now above (take (c.eights.done + 8 - c.eights.done) rest) _ c.eights.done (omega arith)
          (ap (λ (k : ℕ). take k rest) all) made c.eights.invariant.1,
    )

pub pairs-preserved : goal.pairs-preserved
pairs-preserved g c =
    let h = g.H.Hash32.digest c.args.hasher in
    (omega arith, two_more h c.args.nodes.now c.pairs.above.items _ c.pairs.done c.node_hash.result (omega arith) c.node_hash.ensures c.in_ok-push.ensures.items c.pairs.invariant.1)
