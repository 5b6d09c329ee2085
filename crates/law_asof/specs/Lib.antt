pub mod SameItems
pub mod Samples
