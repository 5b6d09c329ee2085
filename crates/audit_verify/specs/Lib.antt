pub mod BlockParts
pub mod Entries
pub mod Groups
pub mod Ids
pub mod Indexes
pub mod Order
pub mod Versions
pub mod Verdict
