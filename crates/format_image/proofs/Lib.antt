mod AnyRows
mod ColumnsRead
mod DefExact
pub mod ImageExact
mod Marks
mod Places
mod ProperNames
mod RowExact
mod Walking
