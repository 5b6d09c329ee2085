pub mod ColumnRows
pub mod Positions
pub mod Runs
