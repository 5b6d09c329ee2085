pub mod Alterations
mod Lists
mod NameSets
mod NewTables
