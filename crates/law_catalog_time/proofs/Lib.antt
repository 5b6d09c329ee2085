mod CreatedColumns
mod EnteredRows
pub mod Journals
mod Statements
mod ToldChanges
mod ToldColumns
mod ToldStatements
pub mod WithPlaces
