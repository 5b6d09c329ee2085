mod Accepted
pub mod Agreeing
pub mod Collisions
mod Covering
pub mod EachDigest
mod Groups
pub mod Halves
pub mod Heads
pub mod ImageLeaves
mod Linked
pub mod Lists
mod Nodes
pub mod Parted
pub mod Rooted
pub mod Unbroken
