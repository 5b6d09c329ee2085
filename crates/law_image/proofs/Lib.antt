mod Defs
pub mod Entries
mod Images
mod NothingDropped
mod Rows
