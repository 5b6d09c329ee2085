mod Owned
pub mod Places
mod Retained
mod Steps
mod Tables
