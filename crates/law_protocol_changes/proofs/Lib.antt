pub mod Apart
mod CatalogTakes
pub mod ChangeKeeps
pub mod ChangedRows
pub mod ChangesAt
pub mod CommittedRows
pub mod CreateVisits
pub mod Creating
pub mod DigestsStand
pub mod Grown
pub mod OutsideRefusals
mod PlainReplies
pub mod SaidThere
pub mod SaysHistory
pub mod StepsQuiet
pub mod StepsSaid
