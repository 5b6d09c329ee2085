pub mod Chains
pub mod Decided
mod Finding
pub mod Found
pub mod Imaged
pub mod Made
mod SameRecords
pub mod Spelled
mod Strings
