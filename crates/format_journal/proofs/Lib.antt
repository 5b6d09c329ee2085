mod Ids
mod JournalExact
mod Texts
