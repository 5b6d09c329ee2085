pub mod Along
pub mod Begins
pub mod Blocks
mod Columns
mod ByNumber
mod Definitions
mod Events
pub mod FilledTables
mod Firsts
pub mod Ids
mod Indexes
mod OneStatement
pub mod RoomOfCuts
mod Roots
mod Rules
mod Shown
pub mod Sizes
mod Stay
mod Versions
mod Whole
