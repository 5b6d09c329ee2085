use Rattle.std.specs.Prelude.{◌≡◌}
use Rattle.base_board.specs.Boards.{seat_state}
use Rattle.test_board.specs.Shares.{counted}
use Rattle.test_board.proofs.visit.count_once.Given as goal

abbrev pub ghosts-give : goal.ghosts-give
ghosts-give g a = record { after = λ t. t ≡ counted a.i (seat_state a.seat.now) }
