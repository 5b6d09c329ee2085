pub mod Journal
pub mod JournalReading
pub mod Rules
