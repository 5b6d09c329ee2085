pub mod AtBoard
pub mod Seated
pub mod Wrote
pub use Rattle.server_board.specs.Laws
pub use Rattle.server_board.specs.ServedDatabase
pub use Rattle.server_engine.specs.FirstCells
pub use Rattle.server_engine.specs.Starts
pub use Rattle.server_engine.specs.declared.session.SessionEnd
