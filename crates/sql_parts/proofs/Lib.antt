mod AddedColumns
pub mod Dropped
mod Filled
pub mod Fixed
pub mod InTurn
mod Lists
pub mod OneMore
pub mod Orders
pub mod Positions
pub mod Refusals
pub mod Sorting
pub mod Zipped
