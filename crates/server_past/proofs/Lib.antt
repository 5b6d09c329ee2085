mod PastCells
mod Ready
mod Starting
