pub mod Packed
pub mod ReservedOrder
