pub mod Figures
pub mod Reports
pub use Rattle.server_run.specs.Agreed
pub use Rattle.server_run.specs.CameTo
