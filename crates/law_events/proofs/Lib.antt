pub mod Leaves
mod Texts
