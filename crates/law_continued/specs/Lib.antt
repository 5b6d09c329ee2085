pub mod Continued
pub mod Start
pub use Rattle.law_retold.specs.Retold
