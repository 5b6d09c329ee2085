pub mod Calls
pub mod Definitions
pub mod GoingOn
pub mod Names
pub mod Noted
pub mod Refusals
pub mod Rows
pub mod WorkedOut
