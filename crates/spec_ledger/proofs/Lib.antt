pub mod Adding
pub mod Parting
