pub mod Own
pub mod Places
pub mod Short
