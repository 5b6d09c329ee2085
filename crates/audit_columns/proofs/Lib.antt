mod LastRows
mod EntryPositions
pub mod Folds
pub mod Runs
pub mod Searches
pub mod Sortings
