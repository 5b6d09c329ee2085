mod AllOut
mod Closes
mod EachStep
mod Gives
mod Leading
mod Owners
mod Parts
pub mod Rows
mod Starts
mod Takes
