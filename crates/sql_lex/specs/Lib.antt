pub mod Cut
pub mod Front
pub mod IsToken
pub mod Longest
pub mod Spans
