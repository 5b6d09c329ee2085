pub mod Among
pub mod Kinds
pub mod Shows
pub mod Wanted
pub use Rattle.audit_chain.specs.Continues
