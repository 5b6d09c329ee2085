mod AddsAt
mod Keeps
pub mod Steps
