pub mod EventIds
pub mod Groups
pub mod ImageTable
pub mod Marks
pub mod Numbered
pub mod Roots
pub mod WrongRoots
