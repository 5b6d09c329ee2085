mod Counts
mod FirstValues
mod LatestDefs
mod LatestRows
mod RuleGroups
pub mod Encoded
pub mod Verdicts
pub mod Walks
mod ZeroAt
