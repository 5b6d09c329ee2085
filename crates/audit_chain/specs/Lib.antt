pub mod Continues
pub mod Joins
