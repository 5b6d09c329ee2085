pub mod EndBehind
pub use Rattle.law_continued.specs.Continued
pub use Rattle.law_continued.specs.Start
pub use Rattle.law_continued.specs.Retold
