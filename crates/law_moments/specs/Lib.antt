pub mod AddedInTime
