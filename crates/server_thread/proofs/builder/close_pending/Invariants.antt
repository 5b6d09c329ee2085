use Rattle.std.specs.Prelude.{◌≡◌}
use Rattle.base_board.specs.Boards.{seat_state}
use Rattle.server_thread.proofs.builder.close_pending.Given as goal

abbrev pub ghosts-give_with : goal.ghosts-give_with
ghosts-give_with g a = record { after = λ t. t ≡ seat_state a.place.now }
