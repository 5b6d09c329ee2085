use Rattle.base_board.specs.Boards.{seat_state}
use Rattle.server_thread.specs.Seated.{IsSeated, known_by}
use Rattle.server_thread.proofs.visits.visit_cell.Given as goal

abbrev pub ghosts-give_with : goal.ghosts-give_with
ghosts-give_with g a = record {
  after = λ t. IsSeated g.H.Hash32.digest g.C.Clock.says (known_by (seat_state a.place.now)) (seat_state a.place.now).written a.about.now t;
}
