use Rattle.std.proofs.Common.{◌∙◌, sym, ap, subst, arith}
use Rattle.base_board.specs.Boards.{seat_out, seat_state}
use Rattle.server_session.specs.KeptCell.{Keeps}
use Rattle.server_session.specs.Steps.{AmongAll, items_in}
use Rattle.server_engine.specs.Written.{KeepsSessionImage}
use Rattle.server_engine.proofs.Holding.{seated}
use Rattle.server_board.proofs.Unchanged.{gives_each_back}
use Rattle.server_thread.specs.Seated.{IsAhead}
use Rattle.server_thread.proofs.Going.{lacks_ahead, seated_somewhere}
use Rattle.server_thread.proofs.Seating.{ahead_there, at}
use Rattle.server_thread.proofs.Snapshots.{image_may, items_there}
use Rattle.server_thread.proofs.Visiting.{among_all}
use Rattle.server_thread.proofs.snapshot.visit_all.Goals as goal

pub keep_image-requires-clause-among : goal.keep_image-requires-clause-among
keep_image-requires-clause-among g c κs within =
    let r = c.requires in
    let z = c.args.worker.now in
    let s = seat_state c.take_all.new.seat in
    let taken = c.in-Ok.ensures in
    let stand = taken.stand in
    let ahead = subst (λ t. IsAhead g.H.Hash32.digest g.C.Clock.says g.K.Serving.database.server z t) (sym c.take_all.ensures.seat.1)
    r.ahead in
    subst (λ cells. AmongAll g.H.Hash32.digest z.session.seat cells) (sym c.deref.ensures.value)
    (among_all g.H.Hash32.digest g.C.Clock.says g.K.Serving.database z.job r.serves z.session z.taken s ahead
    c.in-Ok.cells.items stand.0 stand.1 stand.2 stand.3 r.needs)

pub keep_image-requires-clause-items : goal.keep_image-requires-clause-items
keep_image-requires-clause-items g c κs within =
    let r = c.requires in
    let count = c.in-Ok.ensures.out.1 ∙ r.free.1 in
    c.item_count-items.ensures ∙ items_there c.in-Ok.cells.items c.index.result.now (omega (arith, count)) c.index.ensures
    ∙ ap (λ cs. items_in cs) (sym c.deref.ensures.value)

pub give_all_with-requires-clause-visit : goal.give_all_with-requires-clause-visit
give_all_with-requires-clause-visit g c = λ i cell out first here.
    let r = c.requires in
    let z = c.args.worker.now in
    let s = seat_state c.take_all.new.seat in
    let cells = c.in-Ok.cells.items in
    let taken = c.in-Ok.ensures in
    let stand = taken.stand in
    let ahead = subst (λ t. IsAhead g.H.Hash32.digest g.C.Clock.says g.K.Serving.database.server z t) (sym c.take_all.ensures.seat.1)
    r.ahead in
    let count = taken.out.1 ∙ r.free.1 in
    let keeps = subst (λ cs. KeepsSessionImage g.H.Hash32.digest cs z.session c.keep_image.new.self) c.deref.ensures.value c.keep_image.ensures.kept in
    image_may g.H.Hash32.digest g.C.Clock.says g.K.Serving.database z.job r.serves z.session z.taken s ahead cells
    stand.0 stand.1 stand.2 stand.3 r.needs c.keep_image.new.self keeps count
    (seat_out c.take_all.new.seat) taken.out.0 i cell out first here

pub give_all_with-requires-clause-nothing : goal.give_all_with-requires-clause-nothing
give_all_with-requires-clause-nothing g c = λ i cell out t here seated.
    gives_each_back (λ k. k.cell) Keeps g.K.Serving.database c.in-Ok.cells.items c.in-Ok.ensures.stand.2.kept i cell out t here

pub returns-in-Ok-clause-ahead : goal.returns-in-Ok-clause-ahead
returns-in-Ok-clause-ahead g c =
    let z = c.args.worker.now in
    ahead_there g.H.Hash32.digest g.C.Clock.says g.K.Serving.database.server
    (at z.job c.keep_image.new.self z.taken) (seat_state c.take_all.new.seat) (seat_state c.give_all_with.new.place)
    c.give_all_with.ensures.state.0

pub returns-in-Ok-clause-stays : goal.returns-in-Ok-clause-stays
returns-in-Ok-clause-stays g c = c.keep_image.ensures.kept.stays

-- there was no memory to take them
pub lack_image-requires-clause-seated : goal.lack_image-requires-clause-seated
lack_image-requires-clause-seated g c κs within =
    let z = c.args.worker.now in
    seated_somewhere g.H.Hash32.digest g.C.Clock.says z.job g.K.Serving.database.server c.requires.serves z.session z.taken
    (seat_state c.args.place.now) c.requires.ahead

pub returns-in-Err-clause-ahead : goal.returns-in-Err-clause-ahead
returns-in-Err-clause-ahead g c =
    let z = c.args.worker.now in
    let r = c.requires in
    let l = c.lack_image.ensures in
    subst (λ t. IsAhead g.H.Hash32.digest g.C.Clock.says g.K.Serving.database.server (at z.job (seated z.session c.lack_image.new.self) z.taken) t) (sym c.take_all.ensures.seat.1)
    (lacks_ahead g.H.Hash32.digest g.C.Clock.says z.job g.K.Serving.database.server r.serves z.session z.taken (seat_state c.args.place.now)
    r.ahead r.needs c.lack_image.new.self l.steps l.stays)
