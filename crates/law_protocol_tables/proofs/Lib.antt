pub mod AddIndex
pub mod AskedStays
pub mod Barring
mod ChangeTrees
pub mod Changes
mod FixedOnes
pub mod Formed
pub mod GivesBackStand
pub mod GoingBack
pub mod KeepsAsked
mod KeptNow
pub mod MetLock
pub mod PassedRequests
pub mod ReadsSystemStands
mod Releases
pub mod ReleasesCatalogStand
mod ReleasesStand
pub mod RowsVisits
mod LiveByKey
pub mod StopsAtLock
pub mod StopsForMemory
mod TranscriptVisits
mod UndoesStand
mod UndoneTwice
pub mod VisitsAsked
