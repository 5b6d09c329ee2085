pub mod Closing
pub mod Saved
pub use Rattle.server_engine.specs.Images
pub use Rattle.server_engine.specs.SessionOutput
pub use Rattle.server_engine.specs.Standing
pub use Rattle.server_engine.specs.Wrote
pub use Rattle.server_session.specs.KeptCell
