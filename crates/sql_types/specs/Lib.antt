pub mod Versions
pub mod JournalRules
