pub mod EntryExact
mod Growing
pub mod RecordExact
