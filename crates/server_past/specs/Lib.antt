pub mod PastCells
pub mod Ready
