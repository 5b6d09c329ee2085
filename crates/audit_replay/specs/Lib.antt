pub mod GoesOn
pub mod Reached
