pub mod Laws
pub mod ServedDatabase
pub mod SomeServer
pub mod StartsWith
