pub mod Steps
pub mod Alone
