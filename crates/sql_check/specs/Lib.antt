pub mod Altering
pub mod NameSet
pub mod NewTable
