pub mod Closings
mod Counted
mod Issuing
mod Newest
pub mod OfJournal
