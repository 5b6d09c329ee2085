pub mod About
pub mod AnyOrder
pub mod ChangedTables
pub mod CountingUp
mod Declared
pub mod Defs
mod DroppedKept
pub mod EachEncoded
mod Edited
pub mod FormedAfter
pub mod Forms
pub mod FormsAltered
mod FreshNames
pub mod ItemRows
pub mod Journals
pub mod KeptByJournals
mod KeyCounted
mod KeyKept
mod KeyPositions
pub mod LatestOf
pub mod LiveRows
pub mod MayBe
pub mod Names
mod NewIndex
mod NewNames
mod NewTable
pub mod NextRow
pub mod OneRowMore
pub mod Orders
mod Ordinals
pub mod Passing
pub mod RowsAfter
mod Tests
mod Unchanged
pub mod WrittenAfter
pub use Rattle.law_frame.proofs.Alls
