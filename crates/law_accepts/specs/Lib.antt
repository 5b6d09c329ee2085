pub mod Held
pub use Rattle.law_image.specs.Room
