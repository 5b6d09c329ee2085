pub mod Answers
pub mod Places
pub mod SortKeys
pub mod Totals
