pub mod Tokens
pub mod Expressions
pub mod Rows
pub mod Tables
pub mod Statements
