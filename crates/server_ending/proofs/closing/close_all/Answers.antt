use Rattle.server_ending.proofs.Closings.{has_ledger, none_pending, pending_falls, still_stand}
use Rattle.server_ending.proofs.closing.close_all.Goals as goal

pub loop-init : goal.loop-init
loop-init g c = λ d seats j s w. w

pub close_next-requires-after_bounds : goal.close_next-requires-after_bounds
close_next-requires-after_bounds g c κs within =
    let r = c.requires in
    has_ledger (g.H.Hash32.digest c.args.hasher) c.loop.cells.items r.d r.seats r.j r.s (c.loop.invariant r.d r.seats r.j r.s r.stand)

pub loop-preserved : goal.loop-preserved
loop-preserved g c = λ d seats j s w.
    still_stand (g.H.Hash32.digest c.args.hasher) c.loop.cells.items c.close_next.new.cells.items c.in_ok-close_next.field-0 c.in_ok-close_next.ensures d seats j s (c.loop.invariant d seats j s w)

pub loop-smaller : goal.loop-smaller
loop-smaller g c =
    pending_falls (g.H.Hash32.digest c.args.hasher) c.loop.cells.items c.close_next.new.cells.items c.in_ok-close_next.field-0 c.in_ok-close_next.ensures c.if-branch.true

pub returns-clause-stand : goal.returns-clause-stand
returns-clause-stand g c = λ d seats j s w.
    still_stand (g.H.Hash32.digest c.args.hasher) c.loop.cells.items c.close_next.new.cells.items c.in_ok-close_next.field-0 c.in_ok-close_next.ensures d seats j s (c.loop.invariant d seats j s w)

pub returns-clause-none : goal.returns-clause-none
returns-clause-none g c =
    none_pending (g.H.Hash32.digest c.args.hasher) c.loop.cells.items c.close_next.new.cells.items c.in_ok-close_next.field-0 c.in_ok-close_next.ensures c.if-branch.false
