pub mod Accepted
pub mod Hashed
pub mod Made
pub mod Settles
pub mod Tests
