pub mod Retold
pub use Rattle.law_behind.specs.Forgotten
pub use Rattle.law_behind.specs.Past
