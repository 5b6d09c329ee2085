pub mod Moment
pub mod Reading
pub mod Writing
