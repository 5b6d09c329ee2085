pub mod Kept
pub mod Frame
mod Changes
mod ColumnHistory
mod ColumnNames
mod IndexRows
mod IndexesKept
mod ColumnsTold
mod InOrder
mod NamesKept
mod NewIds
mod Orders
mod Said
pub mod LegalIndexes
mod TableByTable
pub mod LegalColumns
pub mod LegalNames
pub mod Tables
pub mod WhileThere
pub mod OneStatement
pub mod Entered
