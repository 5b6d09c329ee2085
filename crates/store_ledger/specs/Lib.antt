pub mod Commits
pub mod HashedCell
pub mod Issues
