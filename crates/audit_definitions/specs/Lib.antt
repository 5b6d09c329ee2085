pub mod Numbers
pub mod Rules
pub mod DefinitionRows
pub mod LatestRows
