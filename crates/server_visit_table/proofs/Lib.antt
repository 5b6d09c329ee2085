mod RowsBack
mod RowsFound
mod RowsIndex
mod RowsRan
mod RowsRelease
mod RowsSeat
mod RowsThere
