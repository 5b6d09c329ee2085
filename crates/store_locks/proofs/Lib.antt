mod Barriers
mod Changes
mod Holders
mod Indexes
mod Kept
mod Orders
mod Places
pub mod Steps
