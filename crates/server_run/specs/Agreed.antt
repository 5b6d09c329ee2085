-- What is left of a run whose sessions ran side by side, and what it comes to, as law_concurrent says it.
pub use Rattle.law_concurrent.specs.CameTo.{CameTo, RunResult, last_image_bytes}
