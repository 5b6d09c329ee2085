pub mod Agreed
mod ByLocks
mod Counts
pub mod Forgotten
mod Ids
pub mod InOrder
mod Lacks
mod Legal
mod NoPast
pub mod Ordered
mod Refused
pub mod Sessions
mod Setup
mod Theirs
pub mod Without
