use Rattle.std.proofs.Common.{◌∙◌, inr}
use Rattle.std.proofs.lemmas.Bool.{MatchBool-at_true}
use Rattle.base_board.specs.Boards.{seat_state}
use Rattle.server_thread.proofs.Telling.{knows_on}
use Rattle.server_engine.proofs.Midways.{went_further}
use Rattle.server_thread.proofs.visits.visit_needed.Goals as goal

pub loop-preserved : goal.loop-preserved
loop-preserved g c =
    let inv = c.loop.invariant in
    let visit = c.visit_next.ensures in
    let stays = MatchBool-at_true _ _ c.if-not-visit_next.false visit.next in (
      visit.place.0 ∙ inv.0,
      visit.place.1 ∙ inv.1,
      visit.place.2,
      visit.ahead,
      knows_on (seat_state c.args.place.now) (seat_state c.loop.place) (seat_state c.visit_next.new.place) inv.4 visit.known,
      went_further _ _ _ inv.5 (inr stays),
      visit.taken ∙ inv.6,
      visit.job ∙ inv.7,
    )
