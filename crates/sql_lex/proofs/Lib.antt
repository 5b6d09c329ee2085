mod Best
mod Bytes
mod Ends
pub mod Found
pub mod Laws
mod Numbers
mod Quotes
mod Runs
mod Scans
mod Spans
mod Texts
mod Words
