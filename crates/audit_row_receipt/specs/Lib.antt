pub mod AcceptedRows
pub mod Hashed
pub mod RowsMade
