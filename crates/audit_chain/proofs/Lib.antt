pub mod Continuing
mod Decided
mod Histories
mod Least
