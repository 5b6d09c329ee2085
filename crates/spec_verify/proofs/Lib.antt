pub mod AllHold
pub mod AllTold
mod CoveredSo
mod Deciding
mod Firsts
mod InOrder
pub mod Judged
pub mod Leasts
pub mod Merged
mod SameRows
pub mod EncodedSo
pub mod SystemRows
pub mod ToldBlocks
pub mod ToldEntries
pub mod ToldRules
pub mod ToldTables
pub mod ToldVersions
mod Worked
mod WorkedBytes
