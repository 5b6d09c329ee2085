mod Between
mod DefIs
mod Found
mod Kept
mod KeyOrder
mod Opened
mod TellsOn
mod Users
