use Rattle.base_board.proofs.board.Board.split.Given as goal

abbrev pub ghosts-divide : goal.ghosts-divide
ghosts-divide g a = record { count = a.parts }
