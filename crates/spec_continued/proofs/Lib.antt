mod FirstCells
