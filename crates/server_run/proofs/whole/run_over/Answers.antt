use Rattle.std.proofs.Common.{◌∙◌, ℕ, List, sym, ap, subst, Bor, arith}
use Rattle.base_board.specs.Boards.{seat_state}
use Rattle.format_sections.specs.declared.section.Section.{Section}
use Rattle.spec_protocol.specs.Seats.{split, SeatState}
use Rattle.server_result.specs.Moments.{said_with}
use Rattle.server_run.specs.FinishedRun.{AreRunnable, setup_name}
use Rattle.server_thread.specs.Seated.{IsIdle, known_by, texts_in}
use Rattle.server_thread.specs.Wrote.{HasWritten}
use Rattle.server_run.specs.AllWrote.{HaveWritten}
use Rattle.server_run.proofs.FirstStand.{first_count, first_stand, idle_first, none_written}
use Rattle.server_run.proofs.WholeRun.{has_finished}
use Rattle.server_run.proofs.whole.run_over.Goals as goal

pub new-requires-clause-count : goal.new-requires-clause-count
new-requires-clause-count g c =
    let n = first_count (g.H.Hash32.digest c.args.hasher) g.K.Serving.database c.args.cells.items c.requires.serves c.requires.starts in
    (omega (arith, n), omega (arith, n))

pub new-requires-clause-stand : goal.new-requires-clause-stand
new-requires-clause-stand g c = first_stand (g.H.Hash32.digest c.args.hasher) g.K.Serving.database c.args.cells.items c.requires.serves c.requires.starts

pub run_setup-requires-clause-ready : goal.run_setup-requires-clause-ready
run_setup-requires-clause-ready g c κs within =
    let h = g.H.Hash32.digest c.args.hasher in
    let seat = c.in_ok-board.ensures.seat in (
      (seat.0, c.in_ok-board.ensures.board.0 ∙ first_count h g.K.Serving.database c.args.cells.items c.requires.serves c.requires.starts, seat.3),
      subst IsIdle (sym seat.1) (idle_first h g.K.Serving.database c.args.cells.items c.requires.serves c.requires.starts),
      c.requires.serves,
      tt,
    )

pub run_beside-requires-clause-ready : goal.run_beside-requires-clause-ready
run_beside-requires-clause-ready g c κs within =
    let h = g.H.Hash32.digest c.args.hasher in
    let place = c.in_ok-setup.ensures.place in (
      (place.0 ∙ c.in_ok-board.ensures.seat.0, c.in_ok-board.ensures.board.0 ∙ first_count h g.K.Serving.database c.args.cells.items c.requires.serves c.requires.starts, place.2),
      c.in_ok-setup.ensures.idle,
      c.requires.serves,
      subst AreRunnable (sym c.deref-2.ensures.value) c.requires.runnable,
    )

pub returns : goal.returns
returns g c =
    let says = said_with c.args.how.clock (g.C.Clock.says c.args.clock.now) in
    let all_sections = c.args.all_sections.now in
    let first = seat_state c.in_ok-board.place in
    let behind_setup = seat_state c.run_setup.new.place in
    let last = seat_state c.in_ok-place.place in
    let stand = c.close_with.ensures.stand in
    has_finished g.K.Serving.database says (texts_in all_sections.setup.items) all_sections.sessions.items (record { cells = c.close_with.result; setup = c.in_ok-setup.setup; ends = c.in_ok-place.ends }) stand.0 stand.1 first behind_setup last
    (ap (λ (s : SeatState). s.written) c.in_ok-board.ensures.seat.1 ∙ none_written (g.H.Hash32.digest c.args.hasher) g.K.Serving.database c.args.cells.items c.requires.serves c.requires.starts)
    c.in_ok-setup.ensures.idle (known_by (split first 1))
    (subst (λ (texts : List (Bor (List ℕ))). HasWritten says setup_name (texts_in texts) c.in_ok-setup.setup (known_by (split first 1)) first.written behind_setup) c.deref.ensures.value c.in_ok-setup.ensures.wrote)
    (subst (λ (sections : List Section). HaveWritten says sections c.in_ok-place.ends.items behind_setup last) c.deref-2.ensures.value c.in_ok-place.ensures.wrote)
    stand.2 stand.3 stand.4
