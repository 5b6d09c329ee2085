pub mod Input
pub mod Statements
pub mod Tables
pub mod Turns
