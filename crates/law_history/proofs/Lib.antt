pub mod Agreed
pub mod ByLocks
pub mod TranscriptsSoFar
pub mod IdsAssigned
mod Exact
pub mod Items
mod Lacks
pub mod Legality
pub mod Lines
pub mod Names
pub mod Order
pub mod Ordered
pub mod Owners
pub mod Placed
pub mod Rows
mod Samples
pub mod SoFar
mod Theirs
