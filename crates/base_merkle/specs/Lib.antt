pub mod Holds
pub mod Levels
pub mod PutOn
pub mod Stack
pub mod TreeHash
