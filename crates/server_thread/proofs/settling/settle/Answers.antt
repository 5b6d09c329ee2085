use Rattle.std.proofs.Common.{sym, subst}
use Rattle.base_board.specs.Boards.{seat_out, seat_state}
use Rattle.server_session.specs.KeptCell.{Keeps}
use Rattle.server_board.proofs.Unchanged.{each_there}
use Rattle.server_thread.specs.Wrote.{HasLeft}
use Rattle.server_thread.proofs.Visiting.{one_out, out_lies, settle_may}
use Rattle.server_thread.proofs.settling.settle.Goals as goal

pub give_with-requires-clause-may : goal.give_with-requires-clause-may
give_with-requires-clause-may g c =
    let d = g.K.Serving.database in
    let says = g.C.Clock.says in
    let z = c.args.worker.now in
    let cell = c.take-held.result.cell in
    let place = c.take-held.new.seat in
    let taken = c.take-held.ensures in
    let stand = taken.stand in
    let out = one_out (seat_out place) _ 1 cell taken.out c.requires.free.2 in
    let here = out_lies stand.0 (seat_out place) _ 1 cell out stand.5 in
    let keeps = each_there (Keeps d.server.hash) stand.0 stand.3.kept 1 cell here in
    let left = subst (λ s. HasLeft says d.server z s) (sym taken.seat.1) c.requires.left in
    settle_may says d z (seat_state place) left 1 cell keeps (seat_out place) out
