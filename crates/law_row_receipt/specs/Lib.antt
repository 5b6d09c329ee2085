pub mod RowsMade
pub mod Shown
