pub mod Blocks
pub mod Lanes
pub mod Messages
pub mod Rounds
