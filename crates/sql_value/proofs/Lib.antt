pub mod Dates
pub mod Numbers
pub mod Storing
pub mod Trees
