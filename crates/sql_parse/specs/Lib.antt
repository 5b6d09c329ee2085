pub mod NameSet
pub use Rattle.spec_syntax.specs.Text
