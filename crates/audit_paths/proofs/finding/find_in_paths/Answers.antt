use Rattle.std.proofs.Common.{refl}
use Rattle.audit_paths.proofs.Descending.{some_left, left_there, right_there, step_collides, step_down, leaves_collide}
use Rattle.audit_paths.proofs.Lower.{leaves_on_ways, nodes_on_ways, ways_down, whole}
use Rattle.audit_paths.proofs.finding.find_in_paths.Goals as goal

pub halves-init : goal.halves-init
halves-init g c = (
  record { few = c.requires.few; first = c.requires.a_path; second = c.requires.b_path; roots = c.requires.root },
  whole (g.H.Hash32.digest c.args.h) c.args.place c.args.count c.args.a.0.now c.args.a.1.now c.args.b.0.now c.args.b.1.now,
)

pub parted-requires : goal.parted-requires
parted-requires g c =
    let kept = c.halves.invariant.0 in
    some_left (g.H.Hash32.digest c.args.h) c.halves.place c.halves.count c.args.a.0.now kept.roots.root c.halves.a_path.now c.halves-test.true kept.roots.first

pub parted-requires-in-halves : goal.parted-requires-in-halves
parted-requires-in-halves g c =
    let kept = c.halves.invariant.0 in
    some_left (g.H.Hash32.digest c.args.h) c.halves.place c.halves.count c.args.b.0.now kept.roots.root c.halves.b_path.now c.halves-test.true kept.roots.second

pub bytes_above-requires-clause-root : goal.bytes_above-requires-clause-root
bytes_above-requires-clause-root g c κs within =
    left_there (g.H.Hash32.digest c.args.h) c.halves.place c.halves.count c.half_of-half.result.place c.half_of-half.result.count c.half_of-half.result.other c.args.a.0.now c.args.b.0.now c.halves.a_path.now c.halves.b_path.now
    c.parted.result.0.now c.parted-in-halves.result.0.now c.parted.result.1.now c.parted-in-halves.result.1.now c.half_of-half.ensures.sides c.halves.invariant.0 c.parted.ensures c.parted-in-halves.ensures

pub bytes_above-requires-in-halves-clause-root : goal.bytes_above-requires-in-halves-clause-root
bytes_above-requires-in-halves-clause-root g c κs within =
    right_there (g.H.Hash32.digest c.args.h) c.halves.place c.halves.count c.half_of-half.result.place c.half_of-half.result.count c.half_of-half.result.other c.args.a.0.now c.args.b.0.now c.halves.a_path.now c.halves.b_path.now
    c.parted.result.0.now c.parted-in-halves.result.0.now c.parted.result.1.now c.parted-in-halves.result.1.now c.half_of-half.ensures.sides c.halves.invariant.0 c.parted.ensures c.parted-in-halves.ensures

pub returns-then-not-is_equal : goal.returns-then-not-is_equal
returns-then-not-is_equal g c = (
  step_collides (g.H.Hash32.digest c.args.h) c.halves.place c.halves.count c.half_of-half.result.place c.half_of-half.result.count c.half_of-half.result.other c.args.a.0.now c.args.b.0.now c.halves.a_path.now c.halves.b_path.now
      c.parted.result.0.now c.parted-in-halves.result.0.now c.parted.result.1.now c.parted-in-halves.result.1.now c.half_of-half.ensures.sides c.halves.invariant.0 c.parted.ensures c.parted-in-halves.ensures
      c.in_ok-first.first c.in_ok-second.second c.in_ok-first.ensures c.in_ok-second.ensures (c.if-not-is_equal.ensures.differ refl),
  nodes_on_ways (g.H.Hash32.digest c.args.h) c.args.place c.args.count c.halves.place c.halves.count c.half_of-half.result.place c.half_of-half.result.count c.half_of-half.result.other c.args.a.0.now c.args.b.0.now
      c.args.a.1.now c.args.b.1.now c.halves.a_path.now c.halves.b_path.now c.parted.result.0.now c.parted-in-halves.result.0.now c.parted.result.1.now c.parted-in-halves.result.1.now
      c.half_of-half.ensures.sides c.halves.invariant.0 c.parted.ensures c.parted-in-halves.ensures c.halves.invariant.1
      c.in_ok-first.first c.in_ok-second.second c.in_ok-first.ensures c.in_ok-second.ensures,
)

pub halves-preserved : goal.halves-preserved
halves-preserved g c =
    let met = g.met.H.Hash32 g.world.𝓛 g.world.𝓜 g.world.𝓡 ((λ s x. x), (λ x. x), (λ x. x), λ x. x) in (
      step_down (g.H.Hash32.digest c.args.h) c.halves.place c.halves.count c.half_of-half.result.place c.half_of-half.result.count c.half_of-half.result.other c.args.a.0.now c.args.b.0.now c.halves.a_path.now c.halves.b_path.now
          c.parted.result.0.now c.parted-in-halves.result.0.now c.parted.result.1.now c.parted-in-halves.result.1.now c.half_of-half.ensures.sides c.halves.invariant.0 c.parted.ensures c.parted-in-halves.ensures
          c.in_ok-first.first c.in_ok-second.second c.in_ok-first.ensures c.in_ok-second.ensures (met.sized c.args.h) c.half_of-half.ensures.smaller (c.if-not-is_equal.ensures.same refl),
      ways_down (g.H.Hash32.digest c.args.h) c.args.place c.args.count c.halves.place c.halves.count c.half_of-half.result.place c.half_of-half.result.count c.half_of-half.result.other c.args.a.0.now c.args.b.0.now
          c.args.a.1.now c.args.b.1.now c.halves.a_path.now c.halves.b_path.now c.parted.result.0.now c.parted-in-halves.result.0.now c.parted.result.1.now c.parted-in-halves.result.1.now
          c.half_of-half.ensures.sides c.halves.invariant.0 c.parted.ensures c.parted-in-halves.ensures c.halves.invariant.1,
    )

pub returns : goal.returns
returns g c = (
  leaves_collide (g.H.Hash32.digest c.args.h) c.halves.place c.halves.count c.args.a.0.now c.args.b.0.now c.in_ok-first-2.first c.in_ok-second-2.second c.halves.a_path.now c.halves.b_path.now
      c.halves.invariant.0.roots c.halves-test.false c.requires.differ c.in_ok-first-2.ensures c.in_ok-second-2.ensures,
  leaves_on_ways (g.H.Hash32.digest c.args.h) c.args.place c.args.count c.halves.place c.halves.count c.args.a.0.now c.in_ok-first-2.first c.in_ok-second-2.second c.args.a.1.now c.halves.a_path.now
      c.args.b.0.now c.args.b.1.now c.halves.b_path.now c.halves.invariant.1 c.in_ok-first-2.ensures c.in_ok-second-2.ensures,
)
