mod EntryRoots
mod EventIds
pub mod FirstParts
mod Grouped
mod Hashed
mod IdsAt
mod InRows
mod LeafOrder
mod LeftParts
pub mod MergedFaults
mod Owned
pub mod Parts
mod TableFaults
mod TableRoots
pub mod Tables
mod Woven
pub mod WrongRoots
