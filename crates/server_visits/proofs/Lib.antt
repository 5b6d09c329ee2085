pub mod ImagesOfCells
pub mod Keeping
pub use Rattle.store_image.proofs.Servers
