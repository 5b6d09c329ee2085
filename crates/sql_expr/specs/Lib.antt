pub mod Arithmetic
pub mod Operators
pub mod Rows
pub mod OutcomeRef
