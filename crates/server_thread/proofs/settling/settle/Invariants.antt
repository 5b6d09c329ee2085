use Rattle.base_board.specs.Boards.{seat_state}
use Rattle.server_thread.specs.Seated.{known_by, says_in}
use Rattle.server_thread.specs.Wrote.{HasWritten, left_of, texts_taken}
use Rattle.server_thread.proofs.settling.settle.Given as goal

abbrev pub ghosts-give_with : goal.ghosts-give_with
ghosts-give_with g a = let z = a.about.now in let s = seat_state a.place.now in record {
  after = λ t. HasWritten (says_in g.C.Clock.says z.job) z.job.name.now (texts_taken z) (left_of z) (known_by s) s.written t;
}
