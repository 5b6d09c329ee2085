mod KeyOrder
mod LiveNames
mod Matched
