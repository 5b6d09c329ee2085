mod Numbered
mod Room
mod RowsSpelled
mod Told
mod Walked
