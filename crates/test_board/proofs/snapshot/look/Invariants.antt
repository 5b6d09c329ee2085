use Rattle.std.specs.Prelude.{◌≡◌}
use Rattle.base_board.specs.Boards.{seat_state}
use Rattle.test_board.proofs.snapshot.look.Given as goal

abbrev pub ghosts-give_all : goal.ghosts-give_all
ghosts-give_all g a = record { after = λ t. t ≡ seat_state a.seat.now }
