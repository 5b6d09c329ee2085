pub use Rattle.law_image.specs.Room
