use Rattle.base_board.specs.Boards.{seat_state}
use Rattle.server_thread.specs.Seated.{IsSeated, known_by}
use Rattle.server_thread.proofs.snapshot.visit_all.Given as goal

abbrev pub ghosts-give_all_with : goal.ghosts-give_all_with
ghosts-give_all_with g a = record {
  after = λ t. IsSeated g.H.Hash32.digest g.C.Clock.says (known_by (seat_state a.place.now)) (seat_state a.place.now).written a.about.now t;
}
