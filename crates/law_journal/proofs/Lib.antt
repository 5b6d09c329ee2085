pub mod Altered
pub mod AppendOnly
pub mod Counts
pub mod Created
pub mod DefLists
pub mod Entering
pub mod Here
pub mod Keeping
pub mod Lift
mod NewChanges
pub mod NewRows
pub mod NumberKeys
pub mod Order
mod Refusals
mod RowChanges
pub mod Scripts
pub mod Serials
pub mod Statements
pub mod SoFar
mod SystemKeys
pub mod SystemRows
pub mod Tables
pub mod Taken
mod Units
pub mod Values
