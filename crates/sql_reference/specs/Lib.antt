pub mod Again
pub mod Ids
pub mod StatementResult
pub mod Machine
pub mod Order
pub mod Seen
pub mod RunEnd
