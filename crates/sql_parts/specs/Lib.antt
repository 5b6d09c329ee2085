pub mod Dropped
pub mod Fixed
pub mod InTurn
pub mod Places
