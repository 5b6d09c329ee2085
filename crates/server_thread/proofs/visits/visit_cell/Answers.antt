use Rattle.std.proofs.Common.{◌<◌, sym, subst, arith}
use Rattle.base_board.specs.Boards.{seat_out, seat_state}
use Rattle.server_thread.specs.Seated.{IsAhead}
use Rattle.server_engine.proofs.Holding.{seated}
use Rattle.server_thread.proofs.Seating.{ahead_there, at}
use Rattle.server_thread.proofs.Visiting.{among, near, one_out, out_lies, visit_may}
use Rattle.server_thread.proofs.visits.visit_cell.Goals as goal

pub take-held-requires-clause-cell : goal.take-held-requires-clause-cell
take-held-requires-clause-cell g c =
    let r = c.requires in
    let z = c.args.worker.now in
    subst (λ n. c.args.cell < n) (sym r.free.1)
    (near g.H.Hash32.digest g.C.Clock.says g.K.Serving.database z.job r.serves z.session z.taken
    (seat_state c.args.place.now) r.ahead c.args.cell r.needs)

pub visit-requires-after_bounds : goal.visit-requires-after_bounds
visit-requires-after_bounds g c κs within =
    let r = c.requires in
    let z = c.args.worker.now in
    let s = seat_state c.take-held.new.seat in
    let held = c.take-held.result.cell in
    let taken = c.take-held.ensures in
    let stand = taken.stand in
    let ahead = subst (λ t. IsAhead g.H.Hash32.digest g.C.Clock.says g.K.Serving.database.server z t) (sym taken.seat.1)
    r.ahead in
    let here = out_lies stand.0 (seat_out c.take-held.new.seat) _ c.args.cell held taken.out stand.5 in
    among g.H.Hash32.digest g.C.Clock.says g.K.Serving.database z.job r.serves z.session z.taken s ahead stand.0
    stand.1 stand.2 stand.3 stand.4 c.args.cell r.needs held here

pub overflow_cast-cell : goal.overflow_cast-cell
overflow_cast-cell g c =
    let r = c.requires in
    let z = c.args.worker.now in
    let l = near g.H.Hash32.digest g.C.Clock.says g.K.Serving.database z.job r.serves z.session z.taken
    (seat_state c.args.place.now) r.ahead c.args.cell r.needs in
    omega (arith, l)

pub give_with-requires-clause-cell : goal.give_with-requires-clause-cell
give_with-requires-clause-cell g c =
    let r = c.requires in
    let z = c.args.worker.now in
    subst (λ n. c.args.cell < n) (sym r.free.1)
    (near g.H.Hash32.digest g.C.Clock.says g.K.Serving.database z.job r.serves z.session z.taken
    (seat_state c.args.place.now) r.ahead c.args.cell r.needs)

pub give_with-requires-clause-may : goal.give_with-requires-clause-may
give_with-requires-clause-may g c =
    let r = c.requires in
    let z = c.args.worker.now in
    let s = seat_state c.take-held.new.seat in
    let held = c.take-held.result.cell in
    let taken = c.take-held.ensures in
    let stand = taken.stand in
    let ahead = subst (λ t. IsAhead g.H.Hash32.digest g.C.Clock.says g.K.Serving.database.server z t) (sym taken.seat.1)
    r.ahead in
    let out = seat_out c.take-held.new.seat in
    let out_is = one_out out _ c.args.cell held taken.out r.free.2 in
    let here = out_lies stand.0 out _ c.args.cell held taken.out stand.5 in
    visit_may g.H.Hash32.digest g.C.Clock.says g.K.Serving.database z.job r.serves z.session z.taken s ahead stand.0
    stand.1 stand.2 stand.3 stand.4 c.args.cell r.needs held c.visit.new.cell here c.visit.new.seat c.visit.ensures.visits
    c.visit.ensures.stays out out_is

pub returns-clause-ahead : goal.returns-clause-ahead
returns-clause-ahead g c =
    let z = c.args.worker.now in
    ahead_there g.H.Hash32.digest g.C.Clock.says g.K.Serving.database.server
    (at z.job (seated z.session c.visit.new.seat) z.taken) (seat_state c.take-held.new.seat)
    (seat_state c.give_with.new.place) c.give_with.ensures.seat.1
